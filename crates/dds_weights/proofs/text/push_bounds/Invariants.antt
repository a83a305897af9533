use Rattle.std.proofs.Common.{◌≡◌, ◌++◌, flat_map, string_bytes, take}
use Rattle.dds_weights.specs.Text.{bound_text}
use Rattle.dds_weights.specs.Views.{certificate_view}
use Rattle.dds_weights.proofs.text.push_bounds.Given as goal

-- the bounds so far are added
abbrev pub invariant-loop-bound : goal.invariant-loop-bound
invariant-loop-bound l = string_bytes l.text ≡ string_bytes l.initial.text ++ flat_map (bound_text l.lists (certificate_view l.certificate)) (take l.bound-index l.bound-items)
