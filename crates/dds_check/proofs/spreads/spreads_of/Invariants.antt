use Rattle.dds_match.specs.Plan.{network_of}
use Rattle.dds_runs.specs.Accepted.{row_of}
use Rattle.dds_check.specs.Spreads.{ShowsHeard}
use Rattle.dds_check.proofs.spreads.spreads_of.Given as goal

abbrev pub invariant-loop-r : goal.invariant-loop-r
invariant-loop-r l = ShowsHeard (network_of l.plan) (row_of l.weights) l.key l.r l.cells
