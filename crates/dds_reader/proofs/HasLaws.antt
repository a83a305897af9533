-- What is marked, as a relation.
use Rattle.std.proofs.Common.{◌≡◌, ℕ, ◌<◌, ◌≤◌, true, ◌||◌, Some, sym, ap, ◌∙◌, arith, ◌⊎◌}
use Rattle.std.specs.Bool.{Decides}
use Rattle.std.specs.Ordering.{nat_cmp}
use Rattle.std.specs.Cmp.{unsigned_tied, nat_cmp_total}
use Rattle.std.specs.BTreeMap.{IsOrdered, is_at}
use Rattle.std.proofs.lemmas.Bool.{leb-true, le-leb, eqb-true}
use Rattle.std.proofs.lemmas.Bool.Decides.{Decides-ltb, Decides-and, Decides-or, Decides-like, same_from_decides}
use Rattle.std.proofs.lemmas.Option.{slice_get-get_or}
use Rattle.std.proofs.lemmas.List.Folds.{Any-from_list_any}
use Rattle.std.proofs.lemmas.Map.Entries.{place_from_lookup, btree_map_get_place}
use Rattle.std.proofs.lemmas.Map.Keys.{any_passes_from_place}
use Rattle.dds_reader.specs.Ranges.{at, RangeMap, holds, has, is_between}

-- a range has the number
abbrev pub IsIn : RangeMap → ℕ → Type 0
IsIn m n = (s : ℕ) × (e : ℕ) × (at m s ≡ Some e) × (s ≤ n) × (n < e)

abbrev pub IsMarked : ℕ → RangeMap → ℕ → Type 0
IsMarked base m n = ((1 ≤ n) × (n < base)) ⊎ IsIn m n

pub interval_decides : (a b n : ℕ) → Decides (is_between a b n) ((a ≤ n) × (n < b))
interval_decides a b n = Decides-and _ _ (leb-true a n, le-leb a n) (Decides-ltb n b)

same_key : (s k : ℕ) → is_at (nat_cmp s) k ≡ true → s ≡ k
same_key s k e = eqb-true s k (sym (unsigned_tied s k) ∙ e)

holds_from : (m : RangeMap) (n : ℕ) → IsIn m n → holds m.entries n ≡ true
holds_from m n h =
    let place = place_from_lookup (is_at (nat_cmp h.0)) m.entries h.1 h.2 in
    let same = same_key h.0 place.1 place.3 in
    any_passes_from_place (λ e. is_between e.0 e.1 n) m.entries place.0 (place.1, h.1) place.2
    ((interval_decides place.1 h.1 n).1 (let le = h.3 in omega (arith, same, le), h.4))

holds_to : (m : RangeMap) (n : ℕ) → IsOrdered nat_cmp m → holds m.entries n ≡ true → IsIn m n
holds_to m n ordered e =
    let h = Any-from_list_any (λ e. is_between e.0 e.1 n) m.entries e in
    let place = btree_map_get_place nat_cmp_total m h.0 h.1.0 h.1.1 ordered (slice_get-get_or m.entries h.0 h.1 h.2 ∙ ap Some h.3) in
    let within = (interval_decides h.1.0 h.1.1 n).0 h.4 in
    (h.1.0, h.1.1, place, within.0, within.1)

pub has_decides : (base : ℕ) (m : RangeMap) (n : ℕ) → IsOrdered nat_cmp m → Decides (has base m n) (IsMarked base m n)
has_decides base m n ordered = Decides-or _ _ (interval_decides 1 base n) (holds_to m n ordered, holds_from m n)

-- what more is marked
pub marks_more : (base base' from until n : ℕ) (m m' : RangeMap) → IsOrdered nat_cmp m → IsOrdered nat_cmp m'
    → (IsMarked base' m' n → IsMarked base m n ⊎ ((from ≤ n) × (n < until)))
    → (IsMarked base m n ⊎ ((from ≤ n) × (n < until)) → IsMarked base' m' n)
    → has base' m' n ≡ (has base m n || is_between from until n)
marks_more base base' from until n m m' o o' to back =
    same_from_decides _ _ (has_decides base' m' n o')
    (Decides-like _ back to (Decides-or _ _ (has_decides base m n o) (interval_decides from until n)))
