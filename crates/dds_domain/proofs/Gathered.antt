-- What the loops of the opening gather of the numbers below a bound.
use Rattle.std.proofs.Common.{◌≡◌, ℕ, zero, suc, ◌+◌, Bool, true, false, cond, nat_lt, ◌==◌, ◌&&◌, List, [], ◌∷◌, ◌++◌, filter, ap, ◌∙◌, arith, append-nil}
use Rattle.std.specs.List.{list_any, range_with_len}
use Rattle.std.proofs.lemmas.List.Elements.{filter-append}

-- ── a list of the numbers below a bound that pass a test, whatever their order
pub record Gathers (test : ℕ → Bool) (n : ℕ) (xs : List ℕ) : Type 0 where
  pub has : (k : ℕ) → list_any (λ x. x == k) xs ≡ (nat_lt k n && test k)

-- ── the numbers below a bound that pass a test, in their order
-- one more number at the end
range_next : (a n j : ℕ) → a + n ≡ j → range_with_len a (suc n) ≡ range_with_len a n ++ j ∷ []
range_next a zero j e = let same : a ≡ j = omega arith in ap (λ i. i ∷ []) same
range_next a (suc n) j e = ap (λ is. a ∷ is) (range_next (a + 1) n j (omega arith))

filter_next : (test : ℕ → Bool) (n : ℕ) → filter test (range_with_len 0 (n + 1)) ≡ filter test (range_with_len 0 n) ++ cond (test n) (n ∷ []) []
filter_next test n =
    let next : n + 1 ≡ suc n = omega arith in
    ap (λ m. filter test (range_with_len 0 m)) next ∙ ap (filter test) (range_next 0 n n (omega arith)) ∙ filter-append test (range_with_len 0 n) (n ∷ [])

-- the next number passes
pub filter_more : (test : ℕ → Bool) (n : ℕ) → test n ≡ true → filter test (range_with_len 0 (n + 1)) ≡ filter test (range_with_len 0 n) ++ n ∷ []
filter_more test n passes = filter_next test n ∙ ap (λ b. filter test (range_with_len 0 n) ++ cond b (n ∷ []) []) passes

-- the next number fails
pub filter_same : (test : ℕ → Bool) (n : ℕ) → test n ≡ false → filter test (range_with_len 0 (n + 1)) ≡ filter test (range_with_len 0 n)
filter_same test n fails = filter_next test n ∙ ap (λ b. filter test (range_with_len 0 n) ++ cond b (n ∷ []) []) fails ∙ append-nil (filter test (range_with_len 0 n))
