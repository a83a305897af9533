use Rattle.std.proofs.Common.{◌≡◌, drop}
use Rattle.dds_runs.specs.World.{World}
use Rattle.dds_domain.specs.Noted.{Noted}
use Rattle.dds_domain.specs.Schedule.{acknack_due, first_by_reader, first_of_reader}
use Rattle.dds_domain.specs.Standing.{PartsAt}
use Rattle.dds_domain.proofs.SchedulePairs.{first_of}
use Rattle.dds_domain.proofs.parts.Parts.acknack_due.Given as goal

-- what is due first is due of the participant's readers that are left
abbrev pub invariant-loop-reader : goal.invariant-loop-reader
invariant-loop-reader l = (v : World) (noted : Noted) → PartsAt v noted l.self →
    first_of (λ r. first_of_reader l.self.plan r (acknack_due noted)) (drop l.reader-index l.reader-items)
    ≡ first_by_reader l.self.plan l.fn.participant (acknack_due noted)
