use Rattle.std.proofs.Common.{◌≡◌, ◌<◌, ◌≤◌, ℕ, slice_index_or, vec_len}
use Rattle.dds_simplex.specs.declared.dictionary.Basic.{Basic}
use Rattle.dds_simplex.specs.Points.{IsBasicReplaced}
use Rattle.dds_simplex.proofs.dictionary.replace_each.Given as goal

-- the line was put into those before the place, the others are what they were
abbrev pub invariant-loop-place : goal.invariant-loop-place
invariant-loop-place l = record {
  basics : vec_len l.basics ≡ vec_len l.fn.basics;
  replaced : (k : ℕ) (other : Basic) → k < l.place → IsBasicReplaced l.column l.given (slice_index_or l.fn.basics.items k other) (slice_index_or l.basics.items k other);
  rest : (k : ℕ) (other : Basic) → l.place ≤ k → slice_index_or l.basics.items k other ≡ slice_index_or l.fn.basics.items k other;
}
