use Rattle.std.proofs.Common.{rules}
use Rattle.dds_show.specs.Json.{writer_item}
use Rattle.dds_show.proofs.json.writers_section.Goals as goal

pub returns : goal.returns
returns c = rw c.writers.ensures.count at (c.section.ensures (writer_item c.args.lists.now) (λ i r below post. search rules))
