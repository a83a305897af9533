use Rattle.std.proofs.Common.{◌≡◌, ◌∙◌, ap₂}
use Rattle.dds_text.specs.Names.{name_at}
use Rattle.dds_xml.proofs.participants.publisher.Goals as goal

pub returns : goal.returns
returns c =
    let topic : c.name_at-topic.result.now ≡ name_at c.args.lists.now.topics.names c.args.x.now.topic = c.name_at-topic.ensures ∙ ap₂ name_at c.topic_names.ensures c.number.ensures in
    rw topic at c.format.ensures.ok
