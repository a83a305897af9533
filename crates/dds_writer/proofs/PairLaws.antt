-- Pairs of a key and a number in a set, in order of key and then of number: what a change leaves, and what the first or the last of a part of it tells.
use Rattle.std.proofs.Common.{◌≡◌, ℕ, suc, ◌<◌, ◌≤◌, Bool, true, false, cond, not, ◌&&◌, ◌||◌, ◌==◌, Less, List, [], ◌∷◌, ◌++◌, IfSome, slice_get, refl, sym, ap, subst, ◌∙◌, arith, inl, inr, ◌⊎◌}
use Rattle.std.specs.Bool.{IsTrue}
use Rattle.std.specs.Ordering.{nat_cmp, is_eq, is_gt, is_lt}
use Rattle.std.specs.BTreeMap.{is_at}
use Rattle.std.specs.BTreeSet.{UpdatesBy, contains}
use Rattle.std.specs.Cmp.{unsigned_tied, tied_then}
use Rattle.std.proofs.lemmas.Bool.{cases_Bool}
use Rattle.std.proofs.lemmas.Bool.Decides.{nat_tests}
use Rattle.dds_writer.specs.Order.{Pairs, pair_cmp, lists, IsNext, IsLast}

-- ── a pair more, or one less
is_here : (k n l m : ℕ) → is_at (pair_cmp (k, n)) (l, m) ≡ ((k == l) && (n == m))
is_here k n l m = sym (tied_then (nat_cmp k l) (nat_cmp n m)) ∙ ap (λ b. b && is_eq (nat_cmp n m)) (unsigned_tied k l) ∙ ap (λ b. (k == l) && b) (unsigned_tied n m)

pub inserted : (old new : Pairs) (k n : ℕ) → UpdatesBy pair_cmp (pair_cmp (k, n)) old new true → (l m : ℕ) → lists new l m ≡ (lists old l m || ((k == l) && (n == m)))
inserted old new k n u l m = u.0 (l, m) ∙ ap (λ b. cond b true (lists old l m)) (is_here k n l m) ∙ join ((k == l) && (n == m)) (lists old l m)
  where
    join : (b c : Bool) → cond b true c ≡ (c || b)
    join true true = refl
    join true false = refl
    join false true = refl
    join false false = refl

pub removed : (old new : Pairs) (k n : ℕ) → UpdatesBy pair_cmp (pair_cmp (k, n)) old new false → (l m : ℕ) → lists new l m ≡ (lists old l m && not ((k == l) && (n == m)))
removed old new k n u l m = u.0 (l, m) ∙ ap (λ b. cond b false (lists old l m)) (is_here k n l m) ∙ part ((k == l) && (n == m)) (lists old l m)
  where
    part : (b c : Bool) → cond b false c ≡ (c && not b)
    part true true = refl
    part true false = refl
    part false true = refl
    part false false = refl

-- ── pairs in order, in numbers
pub le_pair : (k n l m : ℕ) → is_gt (pair_cmp (k, n) (l, m)) ≡ false → (k < l) ⊎ ((k ≡ l) × (n ≤ m))
le_pair k n l m h = grind (arith, nat_tests)

ge_pair : (k n l m : ℕ) → is_lt (pair_cmp (k, n) (l, m)) ≡ false → (l < k) ⊎ ((l ≡ k) × (m ≤ n))
ge_pair k n l m h = grind (arith, nat_tests)

pub lt_pair : (k n l m : ℕ) → pair_cmp (k, n) (l, m) ≡ Less → (k < l) ⊎ ((k ≡ l) × (suc n ≤ m))
lt_pair k n l m h = grind (arith, nat_tests)

pub pair_lt : (k n m : ℕ) → n < m → pair_cmp (k, n) (k, m) ≡ Less
pair_lt k n m h = grind (arith, nat_tests)

pub pair_le : (k n m : ℕ) → n ≤ m → is_gt (pair_cmp (k, n) (k, m)) ≡ false
pair_le k n m h = grind (arith, nat_tests)

-- ── the first of a part that holds all pairs of a key from a number on, and none before them
module _ (pairs : Pairs) (k from : ℕ) (Inside : ℕ × ℕ → Type 0) (near : (n : ℕ) → from ≤ n → Inside (k, n)) (far : (p : ℕ × ℕ) → Inside p → (k < p.0) ⊎ ((k ≡ p.0) × (from ≤ p.1))) (r t : List (ℕ × ℕ)) (e : ℕ × ℕ) (is : r ≡ e ∷ t)
    (first : IfSome (slice_get r 0) (λ p. Inside p × IsTrue (contains pair_cmp pairs p)))
    (least : (q : ℕ × ℕ) → Inside q → IsTrue (contains pair_cmp pairs q) → IfSome (slice_get r 0) (λ p. is_gt (pair_cmp p q) ≡ false)) where
  here : Inside e × IsTrue (contains pair_cmp pairs e)
  here = subst (λ (l : List (ℕ × ℕ)). IfSome (slice_get l 0) (λ p. Inside p × IsTrue (contains pair_cmp pairs p))) is first

  before : (m : ℕ) → from ≤ m → lists pairs k m ≡ true → (e.0 < k) ⊎ ((e.0 ≡ k) × (e.1 ≤ m))
  before m low listed = le_pair e.0 e.1 k m (subst (λ (l : List (ℕ × ℕ)). IfSome (slice_get l 0) (λ p. is_gt (pair_cmp p (k, m)) ≡ false)) is (least (k, m) (near m low) listed))

  -- it is of the key
  pub next_found : e.0 ≡ k → IsNext (lists pairs k) from e.1
  next_found same = record {
    low = elim (far e here.0) [ inl past ↦ absurd (omega arith) | inr h ↦ h.1 ];
    passes = ap (λ (l : ℕ). lists pairs l e.1) (sym same) ∙ here.1;
    least = λ m low listed. elim (before m low listed) [ inl past ↦ absurd (omega arith) | inr h ↦ h.1 ];
  }

  -- it is of another
  pub next_other : (e.0 ≡ k → ⊥) → (m : ℕ) → from ≤ m → lists pairs k m ≡ false
  next_other ne m low = elim (cases_Bool (lists pairs k m)) [
    | inl listed ↦ elim (before m low listed) [
      | inl less ↦ elim (far e here.0) [ inl more ↦ absurd (omega arith) | inr h ↦ absurd (ne (sym h.0)) ]
      | inr h ↦ absurd (ne h.0)
    ]
    | inr free ↦ free
  ]

-- ── the last of the part up to a number of a key
module _ (pairs : Pairs) (k end : ℕ) (r t : List (ℕ × ℕ)) (e : ℕ × ℕ) (is : r ≡ t ++ e ∷ [])
    (inside : is_gt (pair_cmp e (k, end)) ≡ false) (listed : IsTrue (contains pair_cmp pairs e))
    (greatest : (q : ℕ × ℕ) → is_gt (pair_cmp q (k, end)) ≡ false → IsTrue (contains pair_cmp pairs q) → is_lt (pair_cmp e q) ≡ false) where
  upto : (m : ℕ) → m ≤ end → lists pairs k m ≡ true → (k < e.0) ⊎ ((k ≡ e.0) × (m ≤ e.1))
  upto m high there = ge_pair e.0 e.1 k m (greatest (k, m) (pair_le k m end high) there)

  -- it is of the key
  pub last_found : e.0 ≡ k → IsLast (lists pairs k) end e.1
  last_found same = record {
    high = elim (le_pair e.0 e.1 k end inside) [ inl past ↦ absurd (omega arith) | inr h ↦ h.1 ];
    passes = ap (λ (l : ℕ). lists pairs l e.1) (sym same) ∙ listed;
    greatest = λ m high there. elim (upto m high there) [ inl past ↦ absurd (omega arith) | inr h ↦ h.1 ];
  }

  -- it is of another
  pub last_other : (e.0 ≡ k → ⊥) → (m : ℕ) → m ≤ end → lists pairs k m ≡ false
  last_other ne m high = elim (cases_Bool (lists pairs k m)) [
    | inl there ↦ elim (upto m high there) [
      | inl more ↦ elim (le_pair e.0 e.1 k end inside) [ inl less ↦ absurd (omega arith) | inr h ↦ absurd (ne h.0) ]
      | inr h ↦ absurd (ne (sym h.0))
    ]
    | inr free ↦ free
  ]
