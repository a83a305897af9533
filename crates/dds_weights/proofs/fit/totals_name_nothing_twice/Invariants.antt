use Rattle.std.proofs.Common.{◌≡◌, ◌==◌, take, true}
use Rattle.dds_weights.specs.Fits.{is_distinct}
use Rattle.dds_weights.proofs.fit.totals_name_nothing_twice.Given as goal

abbrev pub invariant-loop-i : goal.invariant-loop-i
invariant-loop-i l = is_distinct (λ x y. y.reader == x.reader) (take l.i l.totals) ≡ true
