use Rattle.std.proofs.Common.{◌≡◌, ◌<◌, ◌≤◌, ℕ, slice_index_or, vec_len}
use Rattle.dds_simplex.specs.declared.dictionary.Basic.{Basic}
use Rattle.dds_simplex.specs.Keeping.{IsBasicKept, kept_columns}
use Rattle.dds_simplex.proofs.dictionary.Dictionary.keep.Given as goal

-- the lines before the place have lost their columns, the others are what they were
abbrev pub invariant-loop-place : goal.invariant-loop-place
invariant-loop-place l = record {
  free : l.self.free.items ≡ kept_columns l.sum.numbers.items l.fn.self.free.items;
  basics : vec_len l.self.basics ≡ vec_len l.fn.self.basics;
  kept : (k : ℕ) (other : Basic) → k < l.place → IsBasicKept l.sum.numbers.items (slice_index_or l.fn.self.basics.items k other) (slice_index_or l.self.basics.items k other);
  rest : (k : ℕ) (other : Basic) → l.place ≤ k → slice_index_or l.self.basics.items k other ≡ slice_index_or l.fn.self.basics.items k other;
}
