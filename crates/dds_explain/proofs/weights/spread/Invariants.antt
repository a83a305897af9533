use Rattle.std.proofs.Common.{◌≡◌, ◌≤◌, ◌*◌, ◌^◌}
use Rattle.dds_base.specs.Sums.{total}
use Rattle.dds_match.specs.Plan.{network_of}
use Rattle.dds_weights.specs.Views.{row_view}
use Rattle.dds_runs.specs.Accepted.{row_of}
use Rattle.dds_check.specs.Spreads.{heard}
use Rattle.dds_explain.proofs.weights.spread.Given as goal

-- the sum of the readers so far
abbrev pub invariant-loop-r : goal.invariant-loop-r
invariant-loop-r l = (l.total ≡ total l.r (λ r. heard (network_of l.plan) (row_of (row_view l.row)) r l.writer l.key)) × (l.total ≤ l.r * 2 ^ 32)
