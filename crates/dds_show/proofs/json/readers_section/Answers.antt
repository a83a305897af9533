use Rattle.std.proofs.Common.{rules}
use Rattle.dds_show.specs.Json.{reader_item}
use Rattle.dds_show.proofs.json.readers_section.Goals as goal

pub returns : goal.returns
returns c = rw c.readers.ensures.count at (c.section.ensures (reader_item c.args.lists.now) (λ i r below post. search rules))
