-- How many of the numbers below a bound pass a test.
use Rattle.std.proofs.Common.{◌≡◌, ◌≢◌, inl, inr, ℕ, zero, suc, ◌+◌, ◌≤◌, ◌<◌, Bool, true, false, not, refl, sym, ap, ◌∙◌, arith}
use Rattle.std.proofs.lemmas.Bool.{cases_eq, cases_lt, not-false, not_from_true}
use Rattle.dds_base.specs.Sums.{total, bit, count_below, least}
use Rattle.dds_base.proofs.SumLaws.{total_ext, total_at, total_zero, least_below}

bit_none : (b : Bool) → bit b ≤ 0 → b ≡ false
bit_none true e = absurd (omega arith)
bit_none false e = refl

bit_not : (b : Bool) → bit b + bit (not b) ≡ 1
bit_not true = refl
bit_not false = refl

bit_some : (b : Bool) → b ≡ true → bit b ≡ 1
bit_some true e = refl
bit_some false e = absurd cc

-- tests that agree below n count the same there
pub count_same : (p q : ℕ → Bool) (n : ℕ) → ((i : ℕ) → i < n → p i ≡ q i) → count_below n p ≡ count_below n q
count_same p q n same = total_ext (λ i. bit (p i)) (λ i. bit (q i)) n (λ i b. ap bit (same i b))

-- a test and its opposite count all
pub count_both : (p : ℕ → Bool) (n : ℕ) → count_below n p + count_below n (λ i. not (p i)) ≡ n
unfolding total
count_both p zero = refl
count_both p (suc n) = let rest = count_both p n in let last = bit_not (p n) in omega arith

pub count_le : (p : ℕ → Bool) (n : ℕ) → count_below n p ≤ n
count_le p n = omega (arith, count_both p n)

-- where none is counted, none passes
pub count_none : (p : ℕ → Bool) (n i : ℕ) → count_below n p ≤ 0 → i < n → p i ≡ false
count_none p n i none b = bit_none (p i) (omega (arith, total_at (λ j. bit (p j)) n i b))

-- where all are counted, each passes
pub count_all : (p : ℕ → Bool) (n i : ℕ) → n ≤ count_below n p → i < n → p i ≡ true
count_all p n i all b = not-false (p i) (count_none (λ j. not (p j)) n i (omega (arith, count_both p n)) b)

-- where none passes, none is counted
pub count_zero : (p : ℕ → Bool) (n : ℕ) → ((i : ℕ) → i < n → p i ≡ false) → count_below n p ≡ 0
count_zero p n fails = total_zero (λ i. bit (p i)) n (λ i b. ap bit (fails i b))

-- where each passes, all are counted
pub count_full : (p : ℕ → Bool) (n : ℕ) → ((i : ℕ) → i < n → p i ≡ true) → count_below n p ≡ n
count_full p n passes = omega (arith, count_both p n, count_zero (λ i. not (p i)) n (λ i b. not_from_true (p i) (passes i b)))

-- where one passes, one is counted
pub count_some : (p : ℕ → Bool) (n i : ℕ) → i < n → p i ≡ true → 1 ≤ count_below n p
count_some p n i b passes = omega (arith, total_at (λ j. bit (p j)) n i b, bit_some (p i) passes)

-- where one is counted, the least that passes is found
pub count_found : (p : ℕ → Bool) (n : ℕ) → 1 ≤ count_below n p → least p n 0 < n
count_found p n some = elim (cases_lt (least p n 0) n) [
  | inl lt ↦ lt
  | inr ge ↦ absurd (omega (arith, count_zero p n (λ i b. least_below p n 0 i (omega arith) (omega arith))))
]

-- a test that passes at one place more counts one more
pub count_more : (p q : ℕ → Bool) (n i : ℕ) → i < n → p i ≡ false → q i ≡ true → ((j : ℕ) → i ≢ j → p j ≡ q j) → count_below n q ≡ count_below n p + 1
unfolding total
count_more p q zero i b fails passes others = absurd (omega arith)
count_more p q (suc n) i b fails passes others = elim (cases_eq i n) [
  | inl e ↦
      let rest : total n (λ j. bit (p j)) ≡ total n (λ j. bit (q j)) = count_same p q n (λ j l. others j (omega arith)) in
      let before : bit (p n) ≡ 0 = ap (λ j. bit (p j)) (sym e) ∙ ap bit fails in
      let after : bit (q n) ≡ 1 = ap (λ j. bit (q j)) (sym e) ∙ ap bit passes in
      omega arith
  | inr ne ↦
      let rest = count_more p q n i (omega arith) fails passes others in
      let last : bit (p n) ≡ bit (q n) = ap bit (others n ne) in
      omega arith
]
