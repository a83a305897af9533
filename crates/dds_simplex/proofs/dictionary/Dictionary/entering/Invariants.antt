use Rattle.std.proofs.Common.{◌<◌, ◌<ℤ◌, ◌≤ℤ◌, ℕ, IfNone, IfSome, vec_len, pos, slice_index_or}
use Rattle.dds_simplex.specs.Line.{number_of}
use Rattle.dds_simplex.proofs.dictionary.Dictionary.entering.Given as goal

-- while none is found, none of those that were looked at would raise the sum; what is found is a column in which the sum has a number above 0
abbrev pub invariant-loop-column : goal.invariant-loop-column
invariant-loop-column l = record {
  none : IfNone l.found ((k : ℕ) → k < l.column → slice_index_or l.sum.numbers.items k (pos 0) ≤ℤ pos 0);
  raises : IfSome l.found (λ found. (found.1 < vec_len l.self.free) × (pos 0 <ℤ number_of l.sum found.1));
}
