use Rattle.std.proofs.Common.{◌≡◌, flat_map, string_bytes, take}
use Rattle.dds_weights.specs.Views.{row_view}
use Rattle.dds_explain.specs.Margin.{row_margin}
use Rattle.dds_explain.proofs.margin.row_margins.Given as goal

-- what caps carry of the rows so far
abbrev pub invariant-loop-row : goal.invariant-loop-row
invariant-loop-row l = string_bytes l.text ≡ flat_map (λ row. row_margin l.plan (row_view row)) (take l.row-index l.rows)
