-- The keys of a map in order, as a set.
use Rattle.std.proofs.Common.{◌≡◌, ℕ, false, ◌||◌, List, [], ◌∷◌, length, Some, refl, sym, ap, ◌∙◌, arith, inl, inr}
use Rattle.std.specs.Prelude.{is_some}
use Rattle.std.specs.List.{AllByRecursion, IsDistinct, list_any}
use Rattle.std.specs.List.Sorted.{IsStrictlySortedBy}
use Rattle.std.specs.Ordering.{nat_cmp, eq_by_cmp}
use Rattle.std.specs.Cmp.{unsigned_tied, nat_cmp_total}
use Rattle.std.specs.BTreeMap.{BTreeMap, UpdatesBy, is_at, keys}
use Rattle.std.specs.BTreeMap as tree
use Rattle.std.specs.FinSet as set
use Rattle.std.specs.FinSet.{contains-from_list, contains-insert, len-empty, len-insert, same_set, nat_cmp-IsAntisymmetric}
use Rattle.std.proofs.lemmas.Bool.{cases_eq, ne_eqb, eq-eqb, cond-false}
use Rattle.std.proofs.lemmas.Map.Made.{is_some-lookup}
use Rattle.std.proofs.lemmas.Map.Keys.{IsDistinct-from_sorted, IsDistinct-head, IsDistinct-tail}

-- a key that the map has a value for is among them
pub knows_is : (m : BTreeMap ℕ ℕ) (q : ℕ) → is_some (tree.get nat_cmp m q) ≡ set.contains (set.from_list {R = nat_cmp} (keys m)) q
knows_is m q = is_some-lookup (is_at (nat_cmp q)) m.entries ∙ sym (contains-from_list nat_cmp_total (keys m) q)

keys_step : (m n : BTreeMap ℕ ℕ) (k v q : ℕ) → UpdatesBy nat_cmp (nat_cmp k) m n (Some v) → is_some (tree.get nat_cmp n q) ≡ (eq_by_cmp nat_cmp q k || set.contains (set.from_list {R = nat_cmp} (keys m)) q)
keys_step m n k v q u = elim (cases_eq q k) [
  | inl e ↦ rw (ap (tree.get nat_cmp n) e ∙ u.1, unsigned_tied q k, eq-eqb q k e) refl
  | inr ne ↦ rw (u.2 q (unsigned_tied k q ∙ ne_eqb k q (λ e. ne (sym e))), unsigned_tied q k, ne_eqb q k ne) (knows_is m q)
]

-- a key more
pub keys_more : (m n : BTreeMap ℕ ℕ) (k v : ℕ) → UpdatesBy nat_cmp (nat_cmp k) m n (Some v) → set.from_list {R = nat_cmp} (keys n) ≡ set.insert (set.from_list (keys m)) k
keys_more m n k v u = same_set nat_cmp_total nat_cmp-IsAntisymmetric _ _ (λ q.
    sym (knows_is n q) ∙ keys_step m n k v q u ∙ sym (contains-insert nat_cmp_total (set.from_list (keys m)) k q))

none_equal : (k : ℕ) (ks : List ℕ) → AllByRecursion (λ y. eq_by_cmp nat_cmp k y ≡ false) ks → list_any (eq_by_cmp nat_cmp k) ks ≡ false
none_equal k [] apart = refl
none_equal k (x ∷ ks) apart = rw apart.0 (none_equal k ks apart.1)

from_list_cons : (k : ℕ) (ks : List ℕ) → set.from_list {R = nat_cmp} (k ∷ ks) ≡ set.insert (set.from_list ks) k
from_list_cons k ks = same_set nat_cmp_total nat_cmp-IsAntisymmetric _ _ (λ q.
    contains-from_list nat_cmp_total (k ∷ ks) q
    ∙ ap (λ b. eq_by_cmp nat_cmp q k || b) (sym (contains-from_list nat_cmp_total ks q))
    ∙ sym (contains-insert nat_cmp_total (set.from_list ks) k q))

len_distinct : (ks : List ℕ) → IsDistinct (eq_by_cmp nat_cmp) ks → set.len (set.from_list {R = nat_cmp} ks) ≡ length ks
len_distinct [] apart = len-empty nat_cmp
len_distinct (k ∷ ks) apart =
    let new = contains-from_list nat_cmp_total ks k ∙ none_equal k ks (IsDistinct-head (eq_by_cmp nat_cmp) k ks apart) in
    let rest = len_distinct ks (IsDistinct-tail (eq_by_cmp nat_cmp) k ks apart) in
    rw (from_list_cons k ks, len-insert nat_cmp_total (set.from_list ks) k, cond-false _ _ _ new, rest) (omega arith)

-- keys in order are as many as the set that they are
pub len_sorted : (ks : List ℕ) → IsStrictlySortedBy nat_cmp ks → set.len (set.from_list {R = nat_cmp} ks) ≡ length ks
len_sorted ks sorted = len_distinct ks (IsDistinct-from_sorted nat_cmp ks sorted)
