use Rattle.dds_match.specs.Plan.{network_of}
use Rattle.dds_runs.specs.Accepted.{row_of}
use Rattle.dds_lint.specs.Spreads.{ShowsSpreadsBelow}
use Rattle.dds_lint.proofs.rows.all_spreads.Given as goal

abbrev pub invariant-loop-k : goal.invariant-loop-k
invariant-loop-k l = ShowsSpreadsBelow (network_of l.plan) (row_of l.weights) l.k l.cells.items
