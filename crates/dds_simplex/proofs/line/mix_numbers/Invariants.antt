use Rattle.std.proofs.Common.{◌≡◌, ◌<◌, ◌≤◌, ◌+ℤ◌, ◌*ℤ◌, ℕ, pos, slice_index_or, vec_len}
use Rattle.dds_simplex.proofs.line.mix_numbers.Given as goal

-- the numbers before the place are mixed, the others are what they were
abbrev pub invariant-loop-i : goal.invariant-loop-i
invariant-loop-i l = record {
  columns : vec_len l.numbers ≡ vec_len l.fn.numbers;
  mixed : (k : ℕ) → k < l.i → slice_index_or l.numbers.items k (pos 0) ≡ slice_index_or l.fn.numbers.items k (pos 0) *ℤ l.own +ℤ slice_index_or l.other k (pos 0) *ℤ l.part;
  rest : (k : ℕ) → l.i ≤ k → slice_index_or l.numbers.items k (pos 0) ≡ slice_index_or l.fn.numbers.items k (pos 0);
}
