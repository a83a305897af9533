use Rattle.std.proofs.Common.{◌≡◌, ℕ, refl, ◌∙◌}
use Rattle.dds_lists.specs.Lists.{Lists}
use Rattle.dds_match.specs.Plan.{network_of}
use Rattle.dds_runs.specs.World.{World}
use Rattle.dds_domain.specs.Noted.{Noted}
use Rattle.dds_domain.specs.Schedule.{due_to, first_by_writer, send_due}
use Rattle.dds_domain.specs.declared.schedule.Sending.{Sending}
use Rattle.dds_domain.specs.declared.schedule.Sending.TheVariants.{Data, Gap, Heartbeat, AckNack}
use Rattle.dds_domain.proofs.parts.Parts.send_due.Goals as goal

-- all but an ACKNACK is a writer's
of_writers : (d : Lists) (v : World) (noted : Noted) (p : ℕ) (kind : Sending) → (kind ≡ AckNack → ⊥) → first_by_writer d p (due_to (network_of d) v noted kind) ≡ send_due d v noted p kind
of_writers d v noted p Data ne = refl
of_writers d v noted p Gap ne = refl
of_writers d v noted p Heartbeat ne = refl
of_writers d v noted p AckNack ne = absurd (ne refl)

pub returns-in-AckNack : goal.returns-in-AckNack
returns-in-AckNack c = λ v noted at. rw c.in-AckNack.is (c.acknack_due.ensures v noted at)

pub returns-in_default : goal.returns-in_default
returns-in_default c = λ v noted at. c.write_due.ensures v noted at ∙ of_writers c.args.self.now.plan v noted c.args.participant c.args.sending c.in_default.not-AckNack
