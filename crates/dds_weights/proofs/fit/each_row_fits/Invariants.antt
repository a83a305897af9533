use Rattle.std.proofs.Common.{◌≡◌, take, true}
use Rattle.std.specs.List.{list_all}
use Rattle.dds_match.specs.Plan.{network_of}
use Rattle.dds_weights.specs.Fits.{row_fits}
use Rattle.dds_weights.specs.Views.{row_view}
use Rattle.dds_weights.proofs.fit.each_row_fits.Given as goal

abbrev pub invariant-loop-row : goal.invariant-loop-row
invariant-loop-row l = list_all (λ r. row_fits (network_of l.plan) (row_view r)) (take l.row-index l.rows) ≡ true
