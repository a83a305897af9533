use Rattle.std.proofs.Common.{◌≡◌, ◌++◌, flat_map, string_bytes, take}
use Rattle.dds_weights.specs.Text.{total_text}
use Rattle.dds_weights.specs.Views.{certificate_view}
use Rattle.dds_weights.proofs.text.push_totals.Given as goal

-- the totals so far are added
abbrev pub invariant-loop-total : goal.invariant-loop-total
invariant-loop-total l = string_bytes l.text ≡ string_bytes l.initial.text ++ flat_map (total_text l.lists (certificate_view l.certificate)) (take l.total-index l.total-items)
