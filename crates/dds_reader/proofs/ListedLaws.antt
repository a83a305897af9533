-- The marks of each writer, by its number, as one list.
use Rattle.std.proofs.Common.{◌≡◌, ℕ, Bool, true, false, ◌&&◌, ◌||◌, ◌==◌, List, [], ◌∷◌, ◌++◌, Option, None, Some, Result, Ok, Err, OnErr, refl, sym, subst, ap, ◌∙◌, inl, inr, map}
use Rattle.std.specs.Prelude.{is_some}
use Rattle.std.specs.List.{list_any}
use Rattle.std.specs.List.Sorted.{IsStrictlySortedBy}
use Rattle.std.specs.Ordering.{nat_cmp}
use Rattle.std.specs.Cmp.{unsigned_tied, eq_by_cmp_equiv, nat_cmp_total}
use Rattle.std.specs.Map.{lookup, keys_of, set_value}
use Rattle.std.specs.BTreeMap.{BTreeMap, IsOrdered, UpdatesBy, WritesThrough, get, is_at, keys}
use Rattle.std.proofs.lemmas.Bool.{cases_Bool, cases_eq, both_ways, eq-eqb, ne_eqb, and_right, or_from, or_left, or_right}
use Rattle.std.proofs.lemmas.List.Folds.{list_any-append}
use Rattle.std.proofs.lemmas.Map.{lookup-none}
use Rattle.std.proofs.lemmas.Map.Entries.{none_past_head, lookup_head, lookup_tail}
use Rattle.std.proofs.lemmas.Map.Keys.{IsDistinct-from_sorted, sorted_tail}
use Rattle.std.proofs.lemmas.Map.Made.{is_some-lookup}
use Rattle.dds_base.proofs.Bools.{or_false}
use Rattle.dds_reader.specs.declared.ranges.Ranges.{Ranges}
use Rattle.dds_reader.specs.Ranges.{has, holds, is_between}
use Rattle.dds_reader.specs.Marks.{Marked, AddsMarks, listed, listed_in, listed_of, in_marks, in_range, has_marks}

-- the number is marked where the writer has marks
abbrev pub marked_at : Option Ranges → ℕ → Bool
marked_at None n = false
marked_at (Some r) n = has r.base r.above n

-- the ranges of one writer
abbrev ranges_of : ℕ → List (ℕ × ℕ) → List Marked
ranges_of k rs = map (λ r. record { writer = k; from = r.0; until = r.1 }) rs

-- one test before several
and_or : (a b c x : Bool) → x ≡ (a && c) → ((a && b) || x) ≡ (a && (b || c))
and_or true b c x e = ap (λ y. b || y) e
and_or false b c x e = e

-- a number in the ranges of one writer
in_ranges_of : (k w n : ℕ) (rs : List (ℕ × ℕ)) → list_any (in_range w n) (ranges_of k rs) ≡ ((k == w) && holds rs n)
in_ranges_of k w n [] = sym (and_right (k == w) false refl)
in_ranges_of k w n (r ∷ rs) = and_or (k == w) (is_between r.0 r.1 n) (holds rs n) _ (in_ranges_of k w n rs)

-- a number in the list of one writer
in_listed_of : (e : ℕ × Ranges) (w n : ℕ) → list_any (in_range w n) (listed_of e) ≡ ((e.0 == w) && has e.1.base e.1.above n)
in_listed_of e w n = and_or (e.0 == w) (is_between 1 e.1.base n) (holds e.1.above.entries n) _ (in_ranges_of e.0 w n e.1.above.entries)

-- the look-up tests for the number alone
test_same : (w k : ℕ) → w ≡ k → is_at (nat_cmp w) k ≡ true
test_same w k same = unsigned_tied w k ∙ eq-eqb w k same

test_other : (w k : ℕ) → (w ≡ k → ⊥) → is_at (nat_cmp w) k ≡ false
test_other w k other = unsigned_tied w k ∙ ne_eqb w k other

-- a number in the list of all writers is what the writer's marks say
in_listed : (es : List (ℕ × Ranges)) (w n : ℕ) → IsStrictlySortedBy nat_cmp (keys_of es) → list_any (in_range w n) (listed_in es) ≡ marked_at (lookup (is_at (nat_cmp w)) es) n
in_listed [] w n sorted = refl
in_listed (e ∷ es) w n sorted =
    let here = has e.1.base e.1.above n in
    let later = list_any (in_range w n) (listed_in es) in
    let rest = in_listed es w n (sorted_tail nat_cmp e.0 (keys_of es) sorted) in
    let parts = list_any-append (in_range w n) (listed_of e) (listed_in es) ∙ ap (λ b. b || later) (in_listed_of e w n) in
    elim (cases_eq w e.0) [
      | inl same ↦
          let test = test_same w e.0 same in
          let none = lookup-none (is_at (nat_cmp w)) es (none_past_head (eq_by_cmp_equiv nat_cmp_total) w e es (IsDistinct-from_sorted nat_cmp (keys_of (e ∷ es)) sorted) test) in
          parts ∙ ap (λ b. (b && here) || later) (eq-eqb e.0 w (sym same)) ∙ ap (λ b. here || b) (rest ∙ ap (λ o. marked_at o n) none) ∙ or_false here
          ∙ sym (ap (λ o. marked_at o n) (lookup_head (is_at (nat_cmp w)) e es test))
      | inr other ↦
          parts ∙ ap (λ b. (b && here) || later) (ne_eqb e.0 w (λ same. other (sym same))) ∙ rest
          ∙ sym (ap (λ o. marked_at o n) (lookup_tail (is_at (nat_cmp w)) e es (test_other w e.0 other)))
    ]

-- another writer has no range of this one
other_ranges : (k w : ℕ) (rs : List (ℕ × ℕ)) → (k == w) ≡ false → list_any (λ m. m.writer == w) (ranges_of k rs) ≡ false
other_ranges k w [] other = refl
other_ranges k w (r ∷ rs) other = or_from (k == w) _ other (other_ranges k w rs other)

-- the list has the writers that the tree has
writer_listed : (es : List (ℕ × Ranges)) (w : ℕ) → list_any (λ m. m.writer == w) (listed_in es) ≡ list_any (is_at (nat_cmp w)) (keys_of es)
writer_listed [] w = refl
writer_listed (e ∷ es) w =
    let later = list_any (λ m. m.writer == w) (listed_in es) in
    let parts = list_any-append (λ m. m.writer == w) (listed_of e) (listed_in es) in
    elim (cases_eq w e.0) [
      | inl same ↦ parts ∙ ap (λ b. (b || list_any (λ m. m.writer == w) (ranges_of e.0 e.1.above.entries)) || later) (eq-eqb e.0 w (sym same)) ∙ sym (or_left _ (list_any (is_at (nat_cmp w)) (keys_of es)) (test_same w e.0 same))
      | inr other ↦
          let no = ne_eqb e.0 w (λ same. other (sym same)) in
          parts ∙ ap (λ b. b || later) (or_from (e.0 == w) _ no (other_ranges e.0 w e.1.above.entries no)) ∙ writer_listed es w
          ∙ sym (ap (λ b. b || list_any (is_at (nat_cmp w)) (keys_of es)) (test_other w e.0 other))
    ]

-- a number is marked as the look-up of its writer says
marked_is : (m : BTreeMap ℕ Ranges) (w n : ℕ) → IsOrdered nat_cmp m → in_marks (listed m) w n ≡ marked_at (get nat_cmp m w) n
marked_is m w n ordered = in_listed m.entries w n ordered

-- a writer has marks where the look-up finds it
has_marks_is : (m : BTreeMap ℕ Ranges) (w : ℕ) → has_marks w (listed m) ≡ is_some (get nat_cmp m w)
has_marks_is m w = writer_listed m.entries w ∙ sym (is_some-lookup (is_at (nat_cmp w)) m.entries)

-- the same writers have marks where the keys are the same
same_writers : (m n : BTreeMap ℕ Ranges) (w : ℕ) → keys n ≡ keys m → has_marks w (listed n) ≡ has_marks w (listed m)
same_writers m n w same = writer_listed n.entries w ∙ ap (λ ks. list_any (is_at (nat_cmp w)) ks) same ∙ sym (writer_listed m.entries w)

-- more numbers of one writer are marked
adds_at : (m n : BTreeMap ℕ Ranges) (w : ℕ) (old new : Ranges) (more : ℕ → Bool) → IsOrdered nat_cmp m → IsOrdered nat_cmp n → get nat_cmp m w ≡ Some old → UpdatesBy nat_cmp (nat_cmp w) m n (Some new)
    → ((k : ℕ) → has new.base new.above k ≡ (has old.base old.above k || more k)) → AddsMarks (in_marks (listed m)) (in_marks (listed n)) w more
adds_at m n w old new more om on there u grown v k = marked_is n v k on ∙ elim (cases_eq w v) [
  | inl same ↦
      ap (λ x. marked_at (get nat_cmp n x) k) (sym same) ∙ ap (λ o. marked_at o k) u.1 ∙ grown k
      ∙ sym (ap (λ b. b || ((w == v) && more k)) (marked_is m v k om ∙ ap (λ x. marked_at (get nat_cmp m x) k) (sym same) ∙ ap (λ o. marked_at o k) there)
      ∙ ap (λ b. has old.base old.above k || (b && more k)) (eq-eqb w v same))
  | inr other ↦
      ap (λ o. marked_at o k) (u.2 v (test_other w v other))
      ∙ sym (ap (λ b. b || ((w == v) && more k)) (marked_is m v k om) ∙ ap (λ b. marked_at (get nat_cmp m v) k || (b && more k)) (ne_eqb w v other) ∙ or_false (marked_at (get nat_cmp m v) k))
]

-- marks without a number for one writer more leave no number marked
pub opened_unmarked : (m n : BTreeMap ℕ Ranges) (k : ℕ) (r : Ranges) → IsOrdered nat_cmp m → IsOrdered nat_cmp n → UpdatesBy nat_cmp (nat_cmp k) m n (Some r)
    → ((x : ℕ) → has r.base r.above x ≡ false) → ((w x : ℕ) → in_marks (listed m) w x ≡ false) → (w x : ℕ) → in_marks (listed n) w x ≡ false
opened_unmarked m n k r om on u none before w x = marked_is n w x on ∙ elim (cases_eq k w) [
  | inl same ↦ ap (λ v. marked_at (get nat_cmp n v) x) (sym same) ∙ ap (λ o. marked_at o x) u.1 ∙ none x
  | inr other ↦ ap (λ o. marked_at o x) (u.2 w (test_other k w other)) ∙ sym (marked_is m w x om) ∙ before w x
]

-- and the writer is one of those that have marks
pub opened_writers : (m n : BTreeMap ℕ Ranges) (k : ℕ) (r : Ranges) → UpdatesBy nat_cmp (nat_cmp k) m n (Some r) → (w : ℕ) → has_marks w (listed n) ≡ (has_marks w (listed m) || (k == w))
opened_writers m n k r u w = has_marks_is n w ∙ elim (cases_eq k w) [
  | inl same ↦ ap (λ v. is_some (get nat_cmp n v)) (sym same) ∙ ap is_some u.1 ∙ sym (or_right (has_marks w (listed m)) (k == w) (eq-eqb k w same))
  | inr other ↦ ap is_some (u.2 w (test_other k w other)) ∙ sym (has_marks_is m w) ∙ sym (ap (λ b. has_marks w (listed m) || b) (ne_eqb k w other) ∙ or_false (has_marks w (listed m)))
]

-- a list of one writer goes by its base and its ranges
listed_alike : (k : ℕ) (old new : Ranges) → new.base ≡ old.base → new.above.entries ≡ old.above.entries → listed_of (k, new) ≡ listed_of (k, old)
listed_alike k old new base above = rw (base, above) refl

-- marks that are written back change nothing
same_listed : (es : List (ℕ × Ranges)) (test : ℕ → Bool) (old new : Ranges) → lookup test es ≡ Some old → new.base ≡ old.base → new.above.entries ≡ old.above.entries → listed_in (set_value test es new) ≡ listed_in es
same_listed [] test old new there base above = refl
same_listed (e ∷ es) test old new there base above = elim (cases_Bool (test e.0)) [
  | inl hit ↦
      let same : e.1 ≡ old = (let found = sym (lookup_head test e es hit) ∙ there in cc) in
      rw hit (ap (λ l. l ++ listed_in es) (listed_alike e.0 e.1 new (base ∙ ap (λ (r : Ranges). r.base) (sym same)) (above ∙ ap (λ (r : Ranges). r.above.entries) (sym same))))
  | inr miss ↦ rw miss (ap (λ l. listed_of e ++ l) (same_listed es test old new (sym (lookup_tail test e es miss) ∙ there) base above))
]

-- what a look-up of a writer finds tells the marked numbers
pub marked_found : (m : BTreeMap ℕ Ranges) (ms : List Marked) (key w n : ℕ) (found : Option Ranges) → IsOrdered nat_cmp m → listed m ≡ ms → key ≡ w → found ≡ get nat_cmp m key → marked_at found n ≡ in_marks ms w n
marked_found m ms key w n found ordered view same is =
    ap (λ o. marked_at o n) is ∙ ap (λ k. marked_at (get nat_cmp m k) n) same ∙ sym (marked_is m w n ordered) ∙ ap (λ l. in_marks l w n) view

-- a writer whose marks are listed is not absent
pub not_absent : (m : BTreeMap ℕ Ranges) (ms : List Marked) (key w : ℕ) → listed m ≡ ms → key ≡ w → None ≡ get nat_cmp m key → has_marks w ms ≡ true → ⊥
not_absent m ms key w view same none listed-w =
    both_ways (has_marks w ms) (ap (has_marks w) (sym view) ∙ has_marks_is m w ∙ ap (λ k. is_some (get nat_cmp m k)) (sym same) ∙ ap is_some (sym none)) listed-w

-- the marks of one writer were changed from old to new through a look-up
pub record IsWritten (m n : BTreeMap ℕ Ranges) (ms : List Marked) (w : ℕ) (old new : Ranges) : Type 0 where
  pub ordered : IsOrdered nat_cmp m
  pub view : listed m ≡ ms
  pub there : get nat_cmp m w ≡ Some old
  pub writes : WritesThrough nat_cmp (nat_cmp w) m new n

-- the same, by the key of the look-up
pub is_written : (m n : BTreeMap ℕ Ranges) (ms : List Marked) (key w : ℕ) (old new : Ranges) → IsOrdered nat_cmp m → listed m ≡ ms → key ≡ w → Some old ≡ get nat_cmp m key → WritesThrough nat_cmp (nat_cmp key) m new n → IsWritten m n ms w old new
is_written m n ms key w old new ordered view same there writes = record {
  ordered = ordered;
  view = view;
  there = ap (get nat_cmp m) (sym same) ∙ sym there;
  writes = subst (λ (k : ℕ). WritesThrough nat_cmp (nat_cmp k) m new n) same writes;
}

module _ {m n : BTreeMap ℕ Ranges} {ms : List Marked} {w : ℕ} {old new : Ranges} (h : IsWritten m n ms w old new) where
  -- what the old marks of the writer say
  pub marked_old : (k : ℕ) → has old.base old.above k ≡ in_marks ms w k
  marked_old k = ap (λ o. marked_at o k) (sym h.there) ∙ sym (marked_is m w k h.ordered) ∙ ap (λ l. in_marks l w k) h.view

  -- more numbers of the writer are marked
  pub adds_written : (more : ℕ → Bool) → ((k : ℕ) → has new.base new.above k ≡ (has old.base old.above k || more k)) → AddsMarks (in_marks ms) (in_marks (listed n)) w more
  adds_written more grown = subst (λ (l : List Marked). AddsMarks (in_marks l) (in_marks (listed n)) w more) h.view
      (adds_at m n w old new more h.ordered h.writes.4 h.there (h.writes.3 (ap is_some h.there)) grown)

  -- the writers stay
  pub writers_written : (v : ℕ) → has_marks v (listed n) ≡ has_marks v ms
  writers_written v = same_writers m n v h.writes.1 ∙ ap (has_marks v) h.view

  -- where the marks of the writer stay, all do
  same_written : new.base ≡ old.base → new.above.entries ≡ old.above.entries → listed n ≡ ms
  same_written base above = ap listed_in h.writes.0 ∙ same_listed m.entries (is_at (nat_cmp w)) old new h.there base above ∙ h.view

  -- the same of a call that failed
  pub same_on_err : {T E : Type 0} (r : Result T E) → OnErr r (new.base ≡ old.base) → OnErr r (new.above.entries ≡ old.above.entries) → OnErr r (listed n ≡ ms)
  same_on_err (Ok x) base above = tt
  same_on_err (Err e) base above = same_written base above
