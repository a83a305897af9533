use Rattle.std.proofs.Common.{◌≡◌, ◌++◌, flat_map, string_bytes, take}
use Rattle.dds_weights.specs.Text.{row_text}
use Rattle.dds_weights.specs.Views.{row_view}
use Rattle.dds_weights.proofs.text.push_rows.Given as goal

-- the rows so far are added
abbrev pub invariant-loop-row : goal.invariant-loop-row
invariant-loop-row l = string_bytes l.text ≡ string_bytes l.initial.text ++ flat_map (λ r. row_text l.lists (row_view r)) (take l.row-index l.rows)
