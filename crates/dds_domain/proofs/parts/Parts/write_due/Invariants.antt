use Rattle.std.proofs.Common.{◌≡◌, drop}
use Rattle.dds_match.specs.Plan.{network_of}
use Rattle.dds_runs.specs.World.{World}
use Rattle.dds_domain.specs.Noted.{Noted}
use Rattle.dds_domain.specs.Schedule.{due_to, first_by_writer, first_of_writer}
use Rattle.dds_domain.specs.Standing.{PartsAt}
use Rattle.dds_domain.proofs.SchedulePairs.{first_of}
use Rattle.dds_domain.proofs.parts.Parts.write_due.Given as goal

-- what is due first is due of the participant's writers that are left
abbrev pub invariant-loop-writer : goal.invariant-loop-writer
invariant-loop-writer l = (v : World) (noted : Noted) → PartsAt v noted l.self →
    first_of (λ w. first_of_writer l.self.plan w (due_to (network_of l.self.plan) v noted l.sending)) (drop l.writer-index l.writer-items)
    ≡ first_by_writer l.self.plan l.fn.participant (due_to (network_of l.self.plan) v noted l.sending)
