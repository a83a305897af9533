use Rattle.std.proofs.Common.{◌≡◌, map, take}
use Rattle.dds_match.specs.Plan.{network_of}
use Rattle.dds_weights.specs.Views.{row_view}
use Rattle.dds_explain.specs.Budgets.{budgets}
use Rattle.dds_explain.proofs.margin.find_budgets.Given as goal

-- the budgets of the rows so far
abbrev pub invariant-loop-row : goal.invariant-loop-row
invariant-loop-row l = l.budgets.items ≡ budgets (network_of l.plan) (map row_view (take l.row-index l.certificate.rows.items))
