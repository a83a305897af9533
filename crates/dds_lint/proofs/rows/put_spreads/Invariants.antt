use Rattle.dds_match.specs.Plan.{network_of}
use Rattle.dds_runs.specs.Accepted.{row_of}
use Rattle.dds_lint.proofs.SpreadLaws.{IsFilledTo}
use Rattle.dds_lint.proofs.rows.put_spreads.Given as goal

abbrev pub invariant-loop-w : goal.invariant-loop-w
invariant-loop-w l = IsFilledTo (network_of l.plan) (row_of l.weights) l.key l.w l.cells
