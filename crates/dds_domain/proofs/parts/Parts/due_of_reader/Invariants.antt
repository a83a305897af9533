use Rattle.std.proofs.Common.{◌≡◌, drop}
use Rattle.dds_runs.specs.World.{World}
use Rattle.dds_domain.specs.Noted.{Noted}
use Rattle.dds_domain.specs.Schedule.{acknack_due, first_of_reader}
use Rattle.dds_domain.specs.Standing.{PartsAt}
use Rattle.dds_domain.proofs.SchedulePairs.{first_of}
use Rattle.dds_domain.proofs.parts.Parts.due_of_reader.Given as goal

-- what is due first is due to the writers that are left
abbrev pub invariant-loop-writer : goal.invariant-loop-writer
invariant-loop-writer l = (v : World) (noted : Noted) → PartsAt v noted l.self →
    first_of (acknack_due noted l.reader) (drop l.writer-index l.writer-items)
    ≡ first_of_reader l.self.plan l.reader (acknack_due noted)
