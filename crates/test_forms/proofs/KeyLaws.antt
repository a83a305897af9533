-- A list of keys, and the set that it stands for.
use Rattle.std.proofs.Common.{◌≡◌, ℕ, true, false, ◌||◌, ◌==◌, List, [], ◌∷◌, ◌++◌, length, refl, sym, ap, ◌∙◌, length-append, inl, inr}
use Rattle.std.specs.List.{list_any}
use Rattle.std.specs.Cmp.{nat_cmp_total, unsigned_tied}
use Rattle.std.specs.Ordering.{nat_cmp, eq_by_cmp}
use Rattle.std.specs.FinSet as set
use Rattle.std.specs.FinSet.{contains-from_list_nat, from_list_push, contains-insert, len-insert, same_set, nat_cmp-IsAntisymmetric}
use Rattle.test_forms.specs.Keys.{learned}
use Rattle.std.proofs.lemmas.Bool.{cond-false, cases_Bool, cases_eq, or_right, ne_eqb}

-- a key that is not known is counted
counted_push : (ks : List ℕ) (k : ℕ) → set.contains (set.from_list {R = nat_cmp} ks) k ≡ false → set.len (set.from_list {R = nat_cmp} ks) ≡ length ks → set.len (set.from_list {R = nat_cmp} (ks ++ k ∷ [])) ≡ length (ks ++ k ∷ [])
counted_push ks k unknown counted =
    rw (from_list_push nat_cmp_total nat_cmp-IsAntisymmetric ks k, len-insert nat_cmp_total (set.from_list ks) k, cond-false _ _ _ unknown, counted)
    (sym (length-append ks (k ∷ [])))

known_more : (s : set.FinSet nat_cmp) (k q : ℕ) → set.contains s k ≡ true → (eq_by_cmp nat_cmp q k || set.contains s q) ≡ set.contains s q
known_more s k q known = elim (cases_eq q k) [
  | inl e ↦ rw (e, known) (or_right (eq_by_cmp nat_cmp k k) true refl)
  | inr ne ↦ ap (λ b. b || set.contains s q) (unsigned_tied q k ∙ ne_eqb q k ne)
]

-- a key that is known changes nothing
insert_known : (s : set.FinSet nat_cmp) (k : ℕ) → set.contains s k ≡ true → set.insert s k ≡ s
insert_known s k known = same_set nat_cmp_total nat_cmp-IsAntisymmetric _ _ (λ q. contains-insert nat_cmp_total s k q ∙ known_more s k q known)

-- the set after one more key
pub from_list_learned : (ks : List ℕ) (k : ℕ) → set.from_list {R = nat_cmp} (learned ks k) ≡ set.insert (set.from_list ks) k
from_list_learned ks k = elim (cases_Bool (list_any (λ y. y == k) ks)) [
  | inl known ↦ rw (known) (sym (insert_known (set.from_list ks) k (contains-from_list_nat ks k ∙ known)))
  | inr unknown ↦ rw (unknown) (from_list_push nat_cmp_total nat_cmp-IsAntisymmetric ks k)
]

-- no key stands twice after one more key
pub counted_learned : (ks : List ℕ) (k : ℕ) → set.len (set.from_list {R = nat_cmp} ks) ≡ length ks → set.len (set.from_list {R = nat_cmp} (learned ks k)) ≡ length (learned ks k)
counted_learned ks k counted = elim (cases_Bool (list_any (λ y. y == k) ks)) [
  | inl known ↦ rw (known) counted
  | inr unknown ↦ rw (unknown) (counted_push ks k (contains-from_list_nat ks k ∙ unknown) counted)
]
