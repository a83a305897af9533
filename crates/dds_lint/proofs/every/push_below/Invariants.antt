use Rattle.std.proofs.Common.{◌≡◌, ◌<◌, ◌++◌, ℕ}
use Rattle.dds_lint.specs.Every.{those_below}
use Rattle.dds_lint.proofs.every.push_below.Given as goal

-- those of the numbers so far are added
abbrev pub invariant-loop-i : goal.invariant-loop-i
invariant-loop-i g l =
    (f : _) → ((i : ℕ) (r : _) → i < l.n → goal.F-post g l.at i r → r ≡ f i) → l.items.items ≡ l.initial.items.items ++ those_below l.i f
