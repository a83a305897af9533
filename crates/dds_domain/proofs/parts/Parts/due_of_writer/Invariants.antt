use Rattle.std.proofs.Common.{◌≡◌, drop}
use Rattle.dds_match.specs.Plan.{network_of}
use Rattle.dds_runs.specs.World.{World}
use Rattle.dds_domain.specs.Noted.{Noted}
use Rattle.dds_domain.specs.Schedule.{due_to, first_of_writer}
use Rattle.dds_domain.specs.Standing.{PartsAt}
use Rattle.dds_domain.proofs.SchedulePairs.{first_of}
use Rattle.dds_domain.proofs.parts.Parts.due_of_writer.Given as goal

-- what is due first is due to the readers that are left
abbrev pub invariant-loop-reader : goal.invariant-loop-reader
invariant-loop-reader l = (v : World) (noted : Noted) → PartsAt v noted l.self →
    first_of (due_to (network_of l.self.plan) v noted l.sending l.writer) (drop l.reader-index l.reader-items)
    ≡ first_of_writer l.self.plan l.writer (due_to (network_of l.self.plan) v noted l.sending)
