use Rattle.std.proofs.Common.{rules}
use Rattle.dds_xml.specs.Participants.{participant_at, participant_library}
use Rattle.dds_xml.proofs.participants.participant_library.Goals as goal

pub returns : goal.returns
unfolding participant_library
returns c = rw c.participants.ensures at (c.library.ensures (participant_at c.args.lists.now) (λ p r below post. search rules))
