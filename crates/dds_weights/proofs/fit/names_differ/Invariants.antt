use Rattle.std.proofs.Common.{◌≡◌, take, true, string_bytes}
use Rattle.std.specs.Str.{bytes_eq}
use Rattle.dds_weights.specs.Fits.{is_distinct}
use Rattle.dds_weights.proofs.fit.names_differ.Given as goal

abbrev pub invariant-loop-i : goal.invariant-loop-i
invariant-loop-i l = is_distinct (λ x y. bytes_eq (string_bytes y.name) (string_bytes x.name)) (take l.i l.rows) ≡ true
