-- What divides the numbers of a line.
use Rattle.std.proofs.Common.{◌<◌, ◌≤◌, ◌+◌, ℕ, ℤ, pos, List, length, get_or, unsigned_abs, arith, subst, sym, inl, inr}
use Rattle.std.specs.Int.{◌∣◌}
use Rattle.std.proofs.Math.ListN.{get_or-eq_default}
use Rattle.std.proofs.lemmas.Bool.{cases_eq, cases_lt}
use Rattle.std.proofs.lemmas.Nat.Gcd.{dvd_trans, dvd-zero}

-- one more number has the divisor
pub divides_next : (found less : ℕ) (numbers : List ℤ) (i : ℕ) → less ∣ found → less ∣ unsigned_abs (get_or numbers i (pos 0)) →
    ((k : ℕ) → k < i → found ∣ unsigned_abs (get_or numbers k (pos 0))) → (k : ℕ) → k < i + 1 → less ∣ unsigned_abs (get_or numbers k (pos 0))
divides_next found less numbers i le here before k h = elim (cases_eq k i) [
  | inl e ↦ subst (λ j. less ∣ unsigned_abs (get_or numbers j (pos 0))) (sym e) here
  | inr ne ↦ let below : k < i = omega arith in dvd_trans less le (before k below)
]

-- what divides each number of a list divides those beyond its end, which are 0
pub divides_all : (found n : ℕ) (numbers : List ℤ) → length numbers ≤ n → ((k : ℕ) → k < n → found ∣ unsigned_abs (get_or numbers k (pos 0))) → (k : ℕ) → found ∣ unsigned_abs (get_or numbers k (pos 0))
divides_all found n numbers whole each k = elim (cases_lt k n) [
  | inl below ↦ each k below
  | inr beyond ↦
      let past : length numbers ≤ k = omega arith in
      subst (λ z. found ∣ unsigned_abs z) (sym (get_or-eq_default numbers (pos 0) past)) (dvd-zero found)
]
