use Rattle.std.proofs.Common.{◌≡◌, ◌<◌, ℕ, Bool, true}
use Rattle.dds_runs.specs.First.{all_below}
use Rattle.dds_check.proofs.below.all_below.Given as goal

-- each so far passes
abbrev pub invariant-loop-i : goal.invariant-loop-i
invariant-loop-i g l =
    (f : ℕ → Bool) → ((i : ℕ) (r : Bool) → i < l.n → goal.F-post g l.passes i r → r ≡ f i) → all_below l.i f ≡ true
