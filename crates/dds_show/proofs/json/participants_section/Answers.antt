use Rattle.std.proofs.Common.{rules}
use Rattle.dds_show.specs.Json.{participant_item}
use Rattle.dds_show.proofs.json.participants_section.Goals as goal

pub returns : goal.returns
returns c = rw c.participants.ensures at (c.section.ensures (participant_item c.args.lists.now) (λ i r below post. search rules))
