use Rattle.std.proofs.Common.{◌≤◌, ◌<ℤ◌, pos}
use Rattle.dds_simplex.specs.Points.{KeepsPoints}
use Rattle.dds_simplex.proofs.dictionary.Dictionary.climb.Given as goal

-- fewer pivots are left
abbrev pub decreases-loop-left : goal.decreases-loop-left
decreases-loop-left l = l.left

-- none is added, and each keeps the points, and the denominator of the sum above 0
abbrev pub invariant-loop-left : goal.invariant-loop-left
invariant-loop-left l = record {
  spent : l.left ≤ l.initial.left;
  points : KeepsPoints l.initial.self l.initial.sum l.self l.sum;
  den : pos 0 <ℤ l.initial.sum.den → pos 0 <ℤ l.sum.den;
}
