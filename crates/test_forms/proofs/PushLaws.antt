-- The marks after one range more stands at the end of the list, and after each number of a set.
use Rattle.std.proofs.Common.{◌≡◌, ℕ, ◌+◌, ◌-◌, ◌<◌, ◌≤◌, Bool, true, false, not, ◌&&◌, ◌||◌, ◌==◌, leb, ltb, List, [], ◌∷◌, ◌++◌, refl, sym, subst, ap, ◌∙◌, arith, inl, inr}
use Rattle.std.proofs.lemmas.Bool.{cases_Bool, cases_lt, both_ways, and_parts, eqb-true, leb-true, lt-leb, ltb-true, le-ltb}
use Rattle.std.proofs.lemmas.List.Folds.{list_any-append}
use Rattle.dds_base.proofs.Bools.{or_false}
use Rattle.dds_base.specs.Counts.{count_between}
use Rattle.dds_base.specs.Sets.{last_number}
use Rattle.dds_base.proofs.CountLaws.{count_join, count_all, count_empty}
use Rattle.dds_reader.specs.Marks.{Marked, in_range, in_marks, AreNumbers, AddsMarks}
use Rattle.dds_reader.specs.Ranges.{is_between}
use Rattle.dds_reader.proofs.MarkLaws.{adds_numbers, between_numbers}

-- one range more marks its numbers
pub adds_push : (ms : List Marked) (m : Marked) → AddsMarks (in_marks ms) (in_marks (ms ++ m ∷ [])) m.writer (is_between m.from m.until)
adds_push ms m v n = list_any-append (in_range v n) ms (m ∷ []) ∙ ap (λ b. in_marks ms v n || b) (or_false (in_range v n m))

-- numbers are marked after one range more of numbers
pub push_numbers : (ms : List Marked) (m : Marked) → AreNumbers (in_marks ms) → 1 ≤ m.from → m.until ≤ last_number + 1 → AreNumbers (in_marks (ms ++ m ∷ []))
push_numbers ms m numbers low high =
    adds_numbers (in_marks ms) (in_marks (ms ++ m ∷ [])) m.writer (is_between m.from m.until) (adds_push ms m) numbers (between_numbers m.from m.until low high)

-- an interval without unmarked numbers has each number marked
count_zero : (p : ℕ → Bool) (a b : ℕ) → count_between p a b ≡ 0 → (k : ℕ) → a ≤ k → k < b → p k ≡ false
count_zero p a b zero k low high = elim (cases_Bool (p k)) [
  | inl holds ↦
      (let one : count_between p k (k + 1) ≡ (k + 1) - k = count_all p k (k + 1) (λ n from below. let e : n ≡ k = omega arith in rw e holds) in
      absurd (omega (arith, zero, one, count_join p a k b low (omega arith), count_join p k (k + 1) b (omega arith) (omega arith))))
  | inr fails ↦ fails
]

-- so marking it adds nothing
pub adds_nothing : (m : ℕ → ℕ → Bool) (w from until : ℕ) → count_between (λ n. not (m w n)) from until ≡ 0 → AddsMarks m m w (is_between from until)
adds_nothing m w from until zero v n = elim (cases_Bool (m v n)) [
  | inl marked ↦ rw marked refl
  | inr free ↦ free ∙ sym (ap (λ b. b || ((w == v) && is_between from until n)) free ∙ outside free)
]
  where
    outside : m v n ≡ false → ((w == v) && is_between from until n) ≡ false
    outside free = elim (cases_Bool ((w == v) && is_between from until n)) [
      | inl holds ↦
          (let parts = and_parts (w == v) (is_between from until n) holds in
          let inside = and_parts (leb from n) (ltb n until) parts.1 in
          let marked : not (m w n) ≡ false = count_zero (λ k. not (m w k)) from until zero n (leb-true from n inside.0) (ltb-true n until inside.1) in
          let free' : not (m w n) ≡ true = subst (λ x. not (m x n) ≡ true) (sym (eqb-true w v parts.0)) (ap not free) in
          absurd (both_ways _ marked free'))
      | inr fails ↦ fails
    ]

-- marking a marked number adds nothing
pub adds_marked : (m : ℕ → ℕ → Bool) (w n : ℕ) (h : ℕ → Bool) → m w n ≡ true → AddsMarks m m w (λ k. h k && (k == n))
adds_marked m w n h marked v k = elim (cases_Bool (m v k)) [
  | inl is ↦ rw is refl
  | inr free ↦ free ∙ sym (ap (λ b. b || ((w == v) && (h k && (k == n)))) free ∙ outside free)
]
  where
    outside : m v k ≡ false → ((w == v) && (h k && (k == n))) ≡ false
    outside free = elim (cases_Bool ((w == v) && (h k && (k == n)))) [
      | inl holds ↦
          (let parts = and_parts (w == v) (h k && (k == n)) holds in
          let same : k ≡ n = eqb-true k n (and_parts (h k) (k == n) parts.1).1 in
          absurd (both_ways _ free (subst (λ x. m x k ≡ true) (eqb-true w v parts.0) (subst (λ x. m w x ≡ true) (sym same) marked))))
      | inr fails ↦ fails
    ]

-- a test that fails adds nothing
fades : (a b c : Bool) → (a || (b && (c && false))) ≡ a
fades true b c = refl
fades false false c = refl
fades false true true = refl
fades false true false = refl

-- an and with false adds nothing
none_left : (a b : Bool) → (a || (b && false)) ≡ a
none_left true b = refl
none_left false true = refl
none_left false false = refl

-- no element of a set is below its base
pub none_before : (b : Bool) (h : ℕ → Bool) (base m : ℕ) → (a : Bool) → (leb base m ≡ false → h m ≡ false) → a ≡ (a || (b && (h m && ltb m (base + 0))))
none_before b h base m a outside = elim (cases_lt m base) [
  | inl below ↦ rw (outside (lt-leb base m below)) (sym (none_left a b))
  | inr above ↦ rw (le-ltb m (base + 0) (omega arith)) (sym (fades a b (h m)))
]

-- two additions of marks are one
pub or_step : (a b x y z : Bool) → (x || y) ≡ z → ((a || (b && x)) || (b && y)) ≡ (a || (b && z))
or_step true b x y z e = refl
or_step false false x y z e = refl
or_step false true x y z e = e

-- no element is below itself
pub none_yet : (a : Bool) (b : Bool) (h : ℕ → Bool) (n : ℕ) → (a || (b && (h n && ltb n n))) ≡ a
none_yet a b h n = rw (le-ltb n n (omega arith)) (fades a b (h n))

-- nothing is counted yet
pub count_start : (p : ℕ → Bool) (a : ℕ) → 0 ≡ count_between p a a
count_start p a = omega (arith, count_empty p a)
