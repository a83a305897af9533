use Rattle.std.proofs.Common.{◌≡◌, ◌<◌, ◌≤◌, ℕ, Bool}
use Rattle.dds_base.specs.Sums.{count_below}
use Rattle.dds_check.proofs.below.count_below.Given as goal

-- those so far are counted
abbrev pub invariant-loop-i : goal.invariant-loop-i
invariant-loop-i g l =
    ((f : ℕ → Bool) → ((i : ℕ) (r : Bool) → i < l.n → goal.F-post g l.passes i r → r ≡ f i) → l.count ≡ count_below l.i f)
    × (l.count ≤ l.i)
