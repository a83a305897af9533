use Rattle.std.proofs.Common.{◌≡◌}
use Rattle.dds_simplex.specs.Dictionary.{fresh_columns}
use Rattle.dds_simplex.proofs.dictionary.Dictionary.new.Given as goal

abbrev pub invariant-loop-column : goal.invariant-loop-column
invariant-loop-column l = l.free.items ≡ fresh_columns l.column
