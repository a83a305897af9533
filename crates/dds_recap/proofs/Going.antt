-- Loops that go through numbers one by one.
use Rattle.std.proofs.Common.{◌≡◌, ◌+◌, ◌||◌, ℕ, Bool, refl, add-one}
use Rattle.std.specs.Prelude.{max}
use Rattle.dds_base.specs.Sums.{any_below}
use Rattle.dds_recap.specs.Held.{greatest}

-- the greatest of one number more
pub greatest_more : (n : ℕ) (f : ℕ → ℕ) → greatest (n + 1) f ≡ max (greatest n f) (f n)
greatest_more n f = rw add-one refl

-- one of one number more passes
pub any_more : (n : ℕ) (p : ℕ → Bool) → any_below (n + 1) p ≡ p n || any_below n p
unfolding any_below
any_more n p = rw add-one refl
