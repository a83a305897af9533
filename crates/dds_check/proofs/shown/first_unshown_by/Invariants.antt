use Rattle.dds_match.specs.Plan.{network_of}
use Rattle.dds_runs.specs.First.{NoneBefore}
use Rattle.dds_check.specs.Shown.{is_unshown_by}
use Rattle.dds_check.proofs.shown.first_unshown_by.Given as goal

abbrev pub invariant-loop-i : goal.invariant-loop-i
invariant-loop-i l = NoneBefore l.certificate.bounds.items (is_unshown_by (network_of l.plan) l.weights l.n) l.i
