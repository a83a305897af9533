-- A map after a change at one key, and maps whose keys are pairs of something and a number: the pairs of one first part stand together, in order of number.
use Rattle.std.proofs.Common.{◌≡◌, ℕ, ◌≤◌, true, false, ◌&&◌, List, ◌∷◌, Option, None, Some, IsSome, IfSome, refl, sym, subst, ap, ◌∙◌, arith, inl, inr, ◌⊎◌, slice_get, Ordering, Less, Equal, Greater}
use Rattle.std.specs.Prelude.{⊤, is_some}
use Rattle.std.specs.Ordering.{nat_cmp, ordering_then, is_gt, is_eq}
use Rattle.std.specs.BTreeMap.{BTreeMap, UpdatesBy, is_at}
use Rattle.std.specs.BTreeMap as tree
use Rattle.std.specs.Cmp.{unsigned_tied, nat_cmp_is, nat_cmp_total}
use Rattle.std.proofs.lemmas.Cmp.{tied_itself}
use Rattle.std.proofs.lemmas.Map.Keys.{le_from_not_gt}
use Rattle.std.proofs.lemmas.Bool.{cases_lt, cases_Bool, eqb-true, and_parts, both_ways}
use Rattle.dds_cache.specs.Order.{pair_cmp, place_cmp}

-- nothing is not something
pub none_some : {A : Type 0} {o : Option A} {x : A} → o ≡ None → o ≡ Some x → ⊥
none_some e f = let h = sym e ∙ f in cc

-- what is two things, these are one
pub some_same : {A : Type 0} {o : Option A} {x y : A} → o ≡ Some x → o ≡ Some y → x ≡ y
some_same e f = let h = sym e ∙ f in cc

-- pairs in order of their first parts, and those of one first part in order of number
abbrev pub by_pair : {A : Type 0} → (A → A → Ordering) → A × ℕ → A × ℕ → Ordering
by_pair cmp x y = ordering_then (cmp x.0 y.0) (nat_cmp x.1 y.1)

-- an order in which only equal things stand at one place
pub record IsExact {A : Type 0} (cmp : A → A → Ordering) : Type 0 where
  pub tied : (a : A) → cmp a a ≡ Equal
  pub same : (a b : A) → is_eq (cmp a b) ≡ true → a ≡ b
  pub squeezed : (a b : A) → is_gt (cmp a b) ≡ false → is_gt (cmp b a) ≡ false → a ≡ b

-- numbers are in such an order
pub exact_nat : IsExact nat_cmp
exact_nat = record {
  tied = tied_itself nat_cmp_total;
  same = λ a b h. eqb-true a b (sym (unsigned_tied a b) ∙ h);
  squeezed = λ a b low high. (let p = le_from_not_gt a b low in let q = le_from_not_gt b a high in omega (arith, p, q));
}

-- a pair is equal to another where both parts are
both_eq : (a b : Ordering) → is_eq (ordering_then a b) ≡ (is_eq a && is_eq b)
both_eq Less b = refl
both_eq Equal b = refl
both_eq Greater b = refl

-- what is not above is not above in its first part
first_not_gt : (a b : Ordering) → is_gt (ordering_then a b) ≡ false → is_gt a ≡ false
first_not_gt Less b h = refl
first_not_gt Equal b h = refl
first_not_gt Greater b h = h

-- pairs of one first part stand in order of number
same_first : {A : Type 0} (cmp : A → A → Ordering) → IsExact cmp → (k : A) (a b : ℕ) → by_pair cmp (k, a) (k, b) ≡ nat_cmp a b
same_first cmp exact k a b = ap (λ o. ordering_then o (nat_cmp a b)) (exact.tied k)

-- so their numbers are in order
numbers_le : {A : Type 0} (cmp : A → A → Ordering) → IsExact cmp → (k l : A) (a b : ℕ) → k ≡ l → is_gt (by_pair cmp (k, a) (l, b)) ≡ false → a ≤ b
numbers_le cmp exact k l a b e h = le_from_not_gt a b (sym (ap is_gt (same_first cmp exact k a b)) ∙ ap (λ q. is_gt (by_pair cmp (k, a) (q, b))) e ∙ h)

-- pairs are in such an order where their first parts are
pub exact_pair : {A : Type 0} (cmp : A → A → Ordering) → IsExact cmp → IsExact (by_pair cmp)
exact_pair {A} cmp exact = record {
  tied = λ p. same_first cmp exact p.0 p.1 p.1 ∙ tied_itself nat_cmp_total p.1;
  same = λ p q h.
      let parts = and_parts (is_eq (cmp p.0 q.0)) (is_eq (nat_cmp p.1 q.1)) (sym (both_eq (cmp p.0 q.0) (nat_cmp p.1 q.1)) ∙ h) in
      join p q (exact.same p.0 q.0 parts.0) (exact_nat.same p.1 q.1 parts.1);
  squeezed = λ p q low high.
      let e = exact.squeezed p.0 q.0 (first_not_gt (cmp p.0 q.0) (nat_cmp p.1 q.1) low) (first_not_gt (cmp q.0 p.0) (nat_cmp q.1 p.1) high) in
      let up = numbers_le cmp exact p.0 q.0 p.1 q.1 e low in
      let down = numbers_le cmp exact q.0 p.0 q.1 p.1 (sym e) high in
      join p q e (omega (arith, up, down));
}
  where
    join : (p q : A × ℕ) → p.0 ≡ q.0 → p.1 ≡ q.1 → p ≡ q
    join p q e f = ap (λ (a : A). (a, p.1)) e ∙ ap (λ (n : ℕ). (q.0, n)) f

-- pairs of a key and a ticket are in such an order, and places in the queues
pub exact_tickets : IsExact pair_cmp
exact_tickets = exact_pair nat_cmp exact_nat

pub exact_places : IsExact place_cmp
exact_places = exact_pair pair_cmp exact_tickets

-- a number is not above one that is no less
not_gt_from_le : (a b : ℕ) → a ≤ b → is_gt (nat_cmp a b) ≡ false
not_gt_from_le a b le = elim (cases_lt a b) [
  | inl lt ↦ ap is_gt (sym (nat_cmp_is a b Less lt))
  | inr ge ↦ ap is_gt (sym (nat_cmp_is a b Equal (omega arith)))
]

-- a pair is not before that of its first part with the number 0
pub from_zero : {A : Type 0} (cmp : A → A → Ordering) → IsExact cmp → (k : A) (n : ℕ) → is_gt (by_pair cmp (k, 0) (k, n)) ≡ false
from_zero cmp exact k n = ap is_gt (same_first cmp exact k 0 n) ∙ not_gt_from_le 0 n (omega arith)

-- the first entry from the number 0 of a first part on is the map's, has that part where the map has any of it, and the least number of those
pub first_from : {A V : Type 0} (cmp : A → A → Ordering) → IsExact cmp → (m : BTreeMap (A × ℕ) V) (k : A) (r t : List ((A × ℕ) × V)) (e : (A × ℕ) × V)
    → r ≡ e ∷ t
    → IfSome (slice_get r 0) (λ e. ((is_gt (by_pair cmp (k, 0) e.0) ≡ false) × ⊤) × (tree.get (by_pair cmp) m e.0 ≡ Some e.1))
    → ((q : A × ℕ) → (is_gt (by_pair cmp (k, 0) q) ≡ false) × ⊤ → IsSome (tree.get (by_pair cmp) m q) → IfSome (slice_get r 0) (λ e. is_gt (by_pair cmp e.0 q) ≡ false))
    → (tree.get (by_pair cmp) m e.0 ≡ Some e.1) × ((s : ℕ) → IsSome (tree.get (by_pair cmp) m (k, s)) → (e.0.0 ≡ k) × (e.0.1 ≤ s))
first_from {A} {V} cmp exact m k r t e eq hd ls =
    let here = subst (λ (l : List ((A × ℕ) × V)). IfSome (slice_get l 0) (λ e. ((is_gt (by_pair cmp (k, 0) e.0) ≡ false) × ⊤) × (tree.get (by_pair cmp) m e.0 ≡ Some e.1))) eq hd in (
      here.1,
      λ s there.
          let up = subst (λ (l : List ((A × ℕ) × V)). IfSome (slice_get l 0) (λ e. is_gt (by_pair cmp e.0 (k, s)) ≡ false)) eq
          (ls (k, s) (from_zero cmp exact k s, tt) there) in
          let same : k ≡ e.0.0 =
          exact.squeezed k e.0.0 (first_not_gt (cmp k e.0.0) (nat_cmp 0 e.0.1) here.0.0) (first_not_gt (cmp e.0.0 k) (nat_cmp e.0.1 s) up) in
          (sym same, numbers_le cmp exact e.0.0 k e.0.1 s (sym same) up),
    )

-- so where that entry is none of the first part up to a top the map has none
pub none_from : {A V : Type 0} (cmp : A → A → Ordering) (m : BTreeMap (A × ℕ) V) (k : A) (top : ℕ) (p : A × ℕ)
    → ((s : ℕ) → IsSome (tree.get (by_pair cmp) m (k, s)) → (p.0 ≡ k) × (p.1 ≤ s))
    → (p.0 ≡ k → p.1 ≤ top → ⊥) → (s : ℕ) → s ≤ top → tree.get (by_pair cmp) m (k, s) ≡ None
none_from {A} {V} cmp m k top p first not s le = go (tree.get (by_pair cmp) m (k, s)) refl
  where
    go : (o : Option V) → tree.get (by_pair cmp) m (k, s) ≡ o → o ≡ None
    go None is = refl
    go (Some v) is =
        let f = first s (ap is_some is) in
        let less : p.1 ≤ s = f.1 in
        absurd (not f.0 (omega (arith, less, le)))

-- a change at one key: there the new value, at each other key the old one
pub changed : {A V : Type 0} (cmp : A → A → Ordering) → IsExact cmp → (m n : BTreeMap A V) (p : A) (w : Option V) → UpdatesBy cmp (cmp p) m n w → (q : A)
    → ((p ≡ q) × (tree.get cmp n q ≡ w)) ⊎ ((p ≡ q → ⊥) × (tree.get cmp n q ≡ tree.get cmp m q))
changed {A} cmp exact m n p w u q = elim (cases_Bool (is_at (cmp p) q)) [
  | inl hit ↦ (let e = exact.same p q hit in inl (e, ap (λ (a : A). tree.get cmp n a) (sym e) ∙ u.1))
  | inr miss ↦ inr (λ e. both_ways (is_at (cmp p) q) miss (ap (λ (a : A). is_at (cmp p) a) (sym e) ∙ ap is_eq (exact.tied p)), u.2 q miss)
]
