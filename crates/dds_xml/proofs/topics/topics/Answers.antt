use Rattle.std.proofs.Common.{rules}
use Rattle.dds_xml.specs.Topics.{topic_at}
use Rattle.dds_xml.proofs.topics.topics.Goals as goal

pub returns : goal.returns
returns c = rw c.topics.ensures at (c.text_below.ensures (topic_at c.args.lists.now) (λ t r below post. search rules))
