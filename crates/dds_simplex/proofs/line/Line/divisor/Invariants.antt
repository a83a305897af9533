use Rattle.std.proofs.Common.{◌<◌, ℕ, pos, slice_index_or, unsigned_abs}
use Rattle.std.specs.Int.{◌∣◌}
use Rattle.dds_simplex.proofs.line.Line.divisor.Given as goal

-- what is found divides the numbers that were looked at
abbrev pub invariant-loop-number : goal.invariant-loop-number
invariant-loop-number l = record {
  den : l.found ∣ unsigned_abs l.self.den;
  constant : l.found ∣ unsigned_abs l.self.constant;
  numbers : (k : ℕ) → k < l.number-index → l.found ∣ unsigned_abs (slice_index_or l.self.numbers.items k (pos 0));
}
