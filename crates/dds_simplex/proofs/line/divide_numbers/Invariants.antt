use Rattle.std.proofs.Common.{◌≡◌, ◌<◌, ◌≤◌, int_div, ℕ, pos, slice_index_or, vec_len}
use Rattle.dds_simplex.proofs.line.divide_numbers.Given as goal

-- the numbers before the place are divided, the others are what they were
abbrev pub invariant-loop-i : goal.invariant-loop-i
invariant-loop-i l = record {
  columns : vec_len l.numbers ≡ vec_len l.fn.numbers;
  divided : (k : ℕ) → k < l.i → slice_index_or l.numbers.items k (pos 0) ≡ int_div (slice_index_or l.fn.numbers.items k (pos 0)) l.divisor;
  rest : (k : ℕ) → l.i ≤ k → slice_index_or l.numbers.items k (pos 0) ≡ slice_index_or l.fn.numbers.items k (pos 0);
}
