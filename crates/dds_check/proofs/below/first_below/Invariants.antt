use Rattle.std.proofs.Common.{◌≡◌, ◌<◌, ℕ, None}
use Rattle.dds_runs.specs.First.{first_below}
use Rattle.dds_check.proofs.below.first_below.Given as goal

-- none so far is there
abbrev pub invariant-loop-i : goal.invariant-loop-i
invariant-loop-i g l =
    (f : _) → ((i : ℕ) (r : _) → i < l.n → goal.F-post g l.at i r → r ≡ f i) → first_below l.i f ≡ None
