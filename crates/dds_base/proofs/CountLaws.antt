-- Laws of counting the numbers of an interval that pass a test.
use Rattle.std.specs.Prelude.{◌≡◌, ℕ, ◌+◌, ◌-◌, ◌<◌, ◌≤◌, Bool, true, false}
use Rattle.std.proofs.Common.{zero, suc, refl, arith, add-suc, add-zero, add_assoc, inl, inr}
use Rattle.std.proofs.lemmas.Bool.{cases_Bool}
use Rattle.dds_base.specs.Counts.{count_from, count_between}

module _ (p : ℕ → Bool) where
  from_append : (a m n : ℕ) → count_from p a (m + n) ≡ count_from p a m + count_from p (a + m) n
  unfolding count_from
  from_append a m zero = rw (add-zero, add-zero) refl
  from_append a m (suc n) = rw (add-suc, from_append a m n, add_assoc a m n) (omega arith)

  from_all : (a n : ℕ) → ((k : ℕ) → k < n → p (a + k) ≡ true) → count_from p a n ≡ n
  unfolding count_from
  from_all a zero h = refl
  from_all a (suc n) h = rw (from_all a n (λ k below. h k (omega arith)), h n (omega arith)) (omega arith)

  from_none : (a n : ℕ) → ((k : ℕ) → k < n → p (a + k) ≡ false) → count_from p a n ≡ 0
  unfolding count_from
  from_none a zero h = refl
  from_none a (suc n) h = rw (from_none a n (λ k below. h k (omega arith)), h n (omega arith)) refl

  from_le : (a n : ℕ) → count_from p a n ≤ n
  unfolding count_from
  from_le a zero = omega arith
  from_le a (suc n) = elim (cases_Bool (p (a + n))) [
    | inl t ↦ rw t (omega (arith, from_le a n))
    | inr f ↦ rw f (omega (arith, from_le a n))
  ]

  from_same : (q : ℕ → Bool) (a n : ℕ) → ((k : ℕ) → k < n → p (a + k) ≡ q (a + k)) → count_from p a n ≡ count_from q a n
  unfolding count_from
  from_same q a zero h = refl
  from_same q a (suc n) h = rw (from_same q a n (λ k below. h k (omega arith)), h n (omega arith)) refl

  pub count_join : (a b c : ℕ) → a ≤ b → b ≤ c → count_between p a c ≡ count_between p a b + count_between p b c
  unfolding count_between
  count_join a b c ab bc =
      let whole : c - a ≡ (b - a) + (c - b) = omega arith in
      let start : a + (b - a) ≡ b = omega arith in
      rw (whole, from_append a (b - a) (c - b), start) refl

  pub count_all : (a b : ℕ) → ((n : ℕ) → a ≤ n → n < b → p n ≡ true) → count_between p a b ≡ b - a
  unfolding count_between
  count_all a b h = from_all a (b - a) (λ k below. h (a + k) (omega arith) (omega arith))

  pub count_none : (a b : ℕ) → ((n : ℕ) → a ≤ n → n < b → p n ≡ false) → count_between p a b ≡ 0
  unfolding count_between
  count_none a b h = from_none a (b - a) (λ k below. h (a + k) (omega arith) (omega arith))

  pub count_le : (a b : ℕ) → count_between p a b ≤ b - a
  unfolding count_between
  count_le a b = from_le a (b - a)

  pub count_same : (q : ℕ → Bool) (a b : ℕ) → ((n : ℕ) → a ≤ n → n < b → p n ≡ q n) → count_between p a b ≡ count_between q a b
  unfolding count_between
  count_same q a b h = from_same q a (b - a) (λ k below. h (a + k) (omega arith) (omega arith))

  pub count_empty : (a : ℕ) → count_between p a a ≡ 0
  count_empty a = count_none a a (λ n low high. absurd (omega arith))

  -- one more number
  pub count_more_yes : (a b : ℕ) → a ≤ b → p b ≡ true → count_between p a (b + 1) ≡ count_between p a b + 1
  count_more_yes a b ab passes =
      let last = count_all b (b + 1) (λ n low high. let e : n ≡ b = omega arith in rw e passes) in
      omega (arith, count_join a b (b + 1) ab (omega arith), last)

  pub count_more_no : (a b : ℕ) → a ≤ b → p b ≡ false → count_between p a (b + 1) ≡ count_between p a b
  count_more_no a b ab fails =
      let last = count_none b (b + 1) (λ n low high. let e : n ≡ b = omega arith in rw e fails) in
      omega (arith, count_join a b (b + 1) ab (omega arith), last)
