use Rattle.std.proofs.Common.{◌≡◌, map, take}
use Rattle.dds_sizing.proofs.reasons.sizes_of.Given as goal

-- the sizes so far
abbrev pub invariant-loop-one : goal.invariant-loop-one
invariant-loop-one l = l.sizes.items ≡ map (λ e. e.size) (take l.one-index l.explained)
