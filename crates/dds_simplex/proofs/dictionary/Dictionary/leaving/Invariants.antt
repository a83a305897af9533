use Rattle.std.proofs.Common.{◌<◌, ◌<ℤ◌, ◌≤ℤ◌, ℕ, IfNone, IfSome, pos, slice_index_or}
use Rattle.std.specs.List.{HoldsAt}
use Rattle.dds_simplex.specs.declared.dictionary.Basic.{Basic}
use Rattle.dds_simplex.specs.Line.{number_of}
use Rattle.dds_simplex.proofs.dictionary.Dictionary.leaving.Given as goal

-- while none is found, none of those that were looked at has a number below 0 in the column; the one that is found has
abbrev pub invariant-loop-place : goal.invariant-loop-place
invariant-loop-place l = record {
  none : IfNone l.found ((k : ℕ) (other : Basic) → k < l.place → pos 0 ≤ℤ number_of (slice_index_or l.self.basics.items k other).line l.column);
  falls : IfSome l.found (λ k. HoldsAt (λ b. number_of b.line l.column <ℤ pos 0) l.self.basics.items k);
}
