-- One of several numbers passes a test.
use Rattle.std.proofs.Common.{ℕ, zero, suc, ◌≡◌, ◌+◌, ◌<◌, inl, inr, Bool, true, false, refl, subst, arith, add-one}
use Rattle.std.proofs.lemmas.Bool.{cases_eq, or_left, or_right, or_from}
use Rattle.dds_base.specs.Sums.{any_below}

pub none_below : (p : ℕ → Bool) → any_below 0 p ≡ false
unfolding any_below
none_below p = refl

pub none_more : (p : ℕ → Bool) (n : ℕ) → any_below n p ≡ false → p n ≡ false → any_below (n + 1) p ≡ false
unfolding any_below
none_more p n before here = rw add-one (or_from (p n) (any_below n p) here before)

-- one that passes is enough
pub any_at : (p : ℕ → Bool) (n i : ℕ) → i < n → p i ≡ true → any_below n p ≡ true
unfolding any_below
any_at p zero i below passes = absurd (omega arith)
any_at p (suc n) i below passes = elim (cases_eq i n) [
  | inl e ↦ or_left (p n) (any_below n p) (subst (λ j. p j ≡ true) e passes)
  | inr ne ↦ or_right (p n) (any_below n p) (any_at p n i (omega arith) passes)
]
