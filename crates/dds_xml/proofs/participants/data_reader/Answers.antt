use Rattle.std.proofs.Common.{◌≡◌, ◌∙◌, ap₂, string_bytes}
use Rattle.dds_lists.specs.Lists.{keys_at}
use Rattle.dds_text.specs.Names.{name_at}
use Rattle.dds_xml.specs.Participants.{content_filter}
use Rattle.dds_xml.proofs.participants.data_reader.Goals as goal

pub returns : goal.returns
returns c =
    let d = c.args.lists.now in
    let x = c.args.x.now in
    let name = c.args.name.now in
    let topic : c.name_at-topic.result.now ≡ name_at d.topics.names x.topic = c.name_at-topic.ensures ∙ ap₂ name_at c.topic_names.ensures c.number.ensures in
    let filter : string_bytes c.in_ok-filter.filter ≡ content_filter name (keys_at d.topics x.topic) x.filter.items =
    c.in_ok-filter.ensures ∙ ap₂ (content_filter name) c.keys.ensures c.as_slice.ensures.value in
    rw (topic, filter, c.in_ok-spans.ensures) at c.format.ensures.ok
