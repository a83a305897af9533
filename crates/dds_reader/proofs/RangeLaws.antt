-- Ranges in a map, read by where they begin.
use Rattle.std.proofs.Common.{◌≡◌, ℕ, ◌<◌, ◌≤◌, true, false, List, [], ◌∷◌, Option, None, Some, IsSome, IfSome, refl, sym, subst, ap, ◌∙◌, arith, inl, inr, ◌⊎◌, slice_get, Less, Equal, Greater}
use Rattle.std.specs.Ordering.{nat_cmp, is_gt, is_eq}
use Rattle.std.specs.BTreeMap.Range.{IsLeBy}
use Rattle.std.specs.BTreeMap.{UpdatesBy, is_at, insert_entry}
use Rattle.std.specs.List.Sorted.{IsStrictlySortedBy}
use Rattle.std.specs.Map.{keys_of, lookup, remove_entry}
use Rattle.std.specs.Cmp.{unsigned_tied, nat_cmp_is}
use Rattle.std.proofs.lemmas.Map.Keys.{le_from_not_gt}
use Rattle.std.proofs.lemmas.Bool.{ne_eqb, eq-eqb, cases_lt, cases_order, cond-true, cond-false}
use Rattle.dds_reader.specs.Ranges.{IsApart, RangeMap, at}

pub some_is : {o : Option ℕ} {a b : ℕ} → o ≡ Some a → o ≡ Some b → a ≡ b
some_is e f = let h = sym e ∙ f in cc

pub not_none : {o : Option ℕ} {a : ℕ} → o ≡ Some a → o ≡ None → ⊥
not_none e f = let h = sym e ∙ f in cc

pub is_some_at : {o : Option ℕ} {a : ℕ} → o ≡ Some a → IsSome o
is_some_at e = rw e refl

-- an update leaves what begins elsewhere
pub others : (m n : RangeMap) (k q : ℕ) (w : Option ℕ) → UpdatesBy nat_cmp (nat_cmp k) m n w → (q ≡ k → ⊥) → at n q ≡ at m q
others m n k q w u ne = u.2 q (unsigned_tied k q ∙ ne_eqb k q (λ e. ne (sym e)))

less_from_lt : (a b : ℕ) → a < b → nat_cmp a b ≡ Less
less_from_lt a b lt = sym (nat_cmp_is a b Less lt)

pub not_gt_from_le : (a b : ℕ) → a ≤ b → is_gt (nat_cmp a b) ≡ false
not_gt_from_le a b le = elim (cases_lt a b) [
  | inl lt ↦ ap is_gt (less_from_lt a b lt)
  | inr ge ↦ ap is_gt (sym (nat_cmp_is a b Equal (omega arith)))
]

-- the first of a part of a map is the least
pub least_here : (r t : List (ℕ × ℕ)) (key until q : ℕ) (p : ℕ × ℕ) → r ≡ p ∷ t → ((nat_cmp key q ≡ Less) × (is_gt (nat_cmp q until) ≡ false) → IfSome (slice_get r 0) (λ e. IsLeBy nat_cmp e.0 q)) → key < q → q ≤ until → p.0 ≤ q
least_here r t key until q p e h after upto =
    let first = h (less_from_lt key q after, not_gt_from_le q until upto) in
    le_from_not_gt p.0 q (subst (λ (l : List (ℕ × ℕ)). IfSome (slice_get l 0) (λ e. IsLeBy nat_cmp e.0 q)) e first)

-- ranges that are the same entries stay apart
pub apart_alike : (base : ℕ) (m n : RangeMap) → n.entries ≡ m.entries → IsApart base m → IsApart base n
apart_alike base m n same a = record {
  ordered = subst (λ (es : List (ℕ × ℕ)). IsStrictlySortedBy nat_cmp (keys_of es)) (sym same) a.ordered;
  each = λ s e there. a.each s e (here s ∙ there);
  apart = λ s e t f there other lt. a.apart s e t f (here s ∙ there) (here t ∙ other) lt;
}
  where
    here : (s : ℕ) → at m s ≡ at n s
    here s = ap (λ es. lookup (is_at (nat_cmp s)) es) (sym same)

-- ---- a range that went in and came out again
test_at : (k : ℕ) → is_at (nat_cmp k) k ≡ true
test_at k = unsigned_tied k k ∙ eq-eqb k k refl

match_split : (k e : ℕ) → (nat_cmp k e ≡ Less) ⊎ ((nat_cmp k e ≡ Equal) ⊎ (nat_cmp k e ≡ Greater))
match_split k e = elim (cases_order k e) [
  | inl same ↦ inr (inl (sym (nat_cmp_is k e Equal same)))
  | inr ne ↦ elim ne [
    | inl lt ↦ inl (sym (nat_cmp_is k e Less lt))
    | inr gt ↦ inr (inr (sym (nat_cmp_is k e Greater gt)))
  ]
]

pub undone : (es : List (ℕ × ℕ)) (k v : ℕ) → lookup (is_at (nat_cmp k)) es ≡ None → remove_entry (is_at (nat_cmp k)) (insert_entry nat_cmp es k v) ≡ es
undone [] k v none = rw (test_at k) refl
undone (e ∷ es) k v none = elim (match_split k e.0) [
  | inl less ↦ rw (less, test_at k) refl
  | inr more ↦ elim more [
    | inl same ↦ absurd (not_none (cond-true (is_at (nat_cmp k) e.0) (Some e.1) (lookup (is_at (nat_cmp k)) es) (ap is_eq same)) none)
    | inr greater ↦
        let miss : is_at (nat_cmp k) e.0 ≡ false = ap is_eq greater in
        rw (greater, miss) (ap (λ l. e ∷ l) (undone es k v (sym (cond-false (is_at (nat_cmp k) e.0) (Some e.1) (lookup (is_at (nat_cmp k)) es) miss) ∙ none)))
  ]
]
