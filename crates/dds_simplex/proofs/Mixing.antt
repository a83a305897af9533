-- Numbers that are mixed one by one.
use Rattle.std.proofs.Common.{◌≡◌, ◌≢◌, ◌<◌, ◌≤◌, ◌+◌, ◌+ℤ◌, ◌*ℤ◌, ℕ, ℤ, pos, List, length, get_or, set, arith, ap, ◌∙◌, get_or-set_same, get_or-set_other, inl, inr}
use Rattle.std.proofs.Math.IntN.{zero-*ℤ}
use Rattle.std.proofs.Math.ListN.{get_or-eq_default}
use Rattle.std.proofs.lemmas.Bool.{cases_eq, cases_lt}
use Rattle.std.proofs.lemmas.Int.{ints}

-- one more number is mixed
pub mixed_next : (own part v : ℤ) (old now other : List ℤ) (i : ℕ) → i < length now → v ≡ get_or now i (pos 0) *ℤ own +ℤ get_or other i (pos 0) *ℤ part → get_or now i (pos 0) ≡ get_or old i (pos 0) →
    ((k : ℕ) → k < i → get_or now k (pos 0) ≡ get_or old k (pos 0) *ℤ own +ℤ get_or other k (pos 0) *ℤ part) →
    (k : ℕ) → k < i + 1 → get_or (set now i v) k (pos 0) ≡ get_or old k (pos 0) *ℤ own +ℤ get_or other k (pos 0) *ℤ part
mixed_next own part v old now other i within is same before k h = elim (cases_eq k i) [
  | inl e ↦ rw (e, get_or-set_same now i v (pos 0) within) (is ∙ ap (λ z. z *ℤ own +ℤ get_or other i (pos 0) *ℤ part) same)
  | inr ne ↦ let less : k < i = omega arith in get_or-set_other now i k v (pos 0) ne ∙ before k less
]

-- the others are what they were
pub rest_next : (v : ℤ) (old now : List ℤ) (i : ℕ) → ((k : ℕ) → i ≤ k → get_or now k (pos 0) ≡ get_or old k (pos 0)) → (k : ℕ) → i + 1 ≤ k → get_or (set now i v) k (pos 0) ≡ get_or old k (pos 0)
rest_next v old now i before k h =
    let ne : k ≢ i = omega arith in
    let more : i ≤ k = omega arith in
    get_or-set_other now i k v (pos 0) ne ∙ before k more

-- beyond the ends all numbers are 0
pub mixed_all : (own part : ℤ) (old new other : List ℤ) → length new ≡ length old → length other ≤ length old →
    ((k : ℕ) → k < length old → get_or new k (pos 0) ≡ get_or old k (pos 0) *ℤ own +ℤ get_or other k (pos 0) *ℤ part) →
    (k : ℕ) → get_or new k (pos 0) ≡ get_or old k (pos 0) *ℤ own +ℤ get_or other k (pos 0) *ℤ part
mixed_all own part old new other len le each k = elim (cases_lt k (length old)) [
  | inl within ↦ each k within
  | inr beyond ↦
      let past_new : length new ≤ k = omega arith in
      let past_other : length other ≤ k = omega arith in
      rw (get_or-eq_default new (pos 0) past_new, get_or-eq_default old (pos 0) beyond, get_or-eq_default other (pos 0) past_other) (omega (arith, ints, zero-*ℤ own, zero-*ℤ part))
]
