use Rattle.std.proofs.Common.{rules}
use Rattle.dds_show.specs.Json.{topic_item}
use Rattle.dds_show.proofs.json.topics_section.Goals as goal

pub returns : goal.returns
returns c = rw c.topics.ensures at (c.section.ensures (topic_item c.args.lists.now) (λ i r below post. search rules))
