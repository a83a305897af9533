-- The marks after more numbers are marked.
use Rattle.std.proofs.Common.{◌≡◌, ℕ, suc, cond, ◌+◌, ◌-◌, ◌<◌, ◌≤◌, Bool, true, false, not, ◌&&◌, ◌||◌, ◌==◌, leb, ltb, List, refl, sym, subst, ap, ◌∙◌, arith, inl, inr}
use Rattle.std.specs.List.{All}
use Rattle.std.proofs.lemmas.Bool.{cases_lt, cases_order, false≢true, or_cases, or_left, or_right, and_left, and_from, and_parts, eq-eqb, ne_eqb, le-leb, lt-leb, leb-true, lt-ltb, le-ltb, ltb-true}
use Rattle.dds_base.proofs.Bools.{or_false}
use Rattle.dds_base.specs.declared.sample.Sample.{Sample}
use Rattle.dds_base.specs.Sets.{last_number}
use Rattle.dds_qos.specs.declared.admission.Admit.{Admit}
use Rattle.dds_qos.specs.declared.admission.Admit.TheVariants.{Stored, Overwrote, Rejected}
use Rattle.dds_qos.specs.Admission.{is_rejected}
use Rattle.dds_qos.specs.Reading.{below_first, base_of, arrival_of, is_repeat, marked_by}
use Rattle.dds_qos.proofs.BaseLaws.{base_is, repeat_is_marked}
use Rattle.dds_reader.specs.Marks.{AreNumbers, AddsMarks, IsWhole}
use Rattle.dds_reader.specs.Ranges.{is_between, IsLeastUnmarked, OnlyNumbers}

-- the least unmarked number goes by what is marked alone
pub least_alike : (p q : ℕ → Bool) (b : ℕ) → ((n : ℕ) → q n ≡ p n) → IsLeastUnmarked q b → IsLeastUnmarked p b
least_alike p q b same h = record {
  low = h.low;
  unmarked = sym (same b) ∙ h.unmarked;
  least = λ k low below. sym (same k) ∙ h.least k low below;
}

-- it is 1 where nothing is marked
pub least_of_none : (p : ℕ → Bool) → ((n : ℕ) → false ≡ p n) → IsLeastUnmarked p 1
least_of_none p none = record {
  low = omega arith;
  unmarked = sym (none 1);
  least = λ k low below. absurd (omega arith);
}

-- it is at most the number after the last, where no number above the last is marked
pub least_high : (p : ℕ → Bool) (b : ℕ) → IsLeastUnmarked p b → ((n : ℕ) → p n ≡ true → n ≤ last_number) → b ≤ last_number + 1
least_high p b h numbers = elim (cases_lt (last_number + 1) b) [
  | inl over ↦ (let last : b - 1 ≤ last_number = numbers (b - 1) (h.least (b - 1) (omega arith) (omega arith)) in omega arith)
  | inr within ↦ within
]

-- and then it is the base
pub least_is_base : (p : ℕ → Bool) (b : ℕ) → IsLeastUnmarked p b → ((n : ℕ) → p n ≡ true → n ≤ last_number) → b ≡ base_of p
least_is_base p b h numbers = let high = least_high p b h numbers in sym (base_is p b h.low (omega (arith, high)) h.least (inr h.unmarked))

-- either of two that are the same
pub cond_same : {A : Type 0} (b : Bool) (x y : A) → x ≡ y → x ≡ cond b x y
cond_same true x y e = refl
cond_same false x y e = e

-- a range of one number
between_one : (n k : ℕ) → is_between n (n + 1) k ≡ (k == n)
between_one n k = elim (cases_order k n) [
  | inl e ↦ rw (e, le-leb n n (omega arith), lt-ltb n (n + 1) (omega arith), eq-eqb n n refl) refl
  | inr other ↦ elim other [
    | inl below ↦ rw (lt-leb n k below, ne_eqb k n (λ e. absurd (omega arith))) refl
    | inr above ↦ rw (le-leb n k (omega arith), le-ltb k (n + 1) (omega arith), ne_eqb k n (λ e. absurd (omega arith))) refl
  ]
]

-- a range has its last number
pub between_last : (from n : ℕ) → from ≤ n → is_between from (n + 1) n ≡ true
between_last from n le = and_from (leb from n) (ltb n (n + 1)) (le-leb from n le) (lt-ltb n (n + 1) (omega arith))

-- what a DATA marks, as a range: its own number, and at a watcher all below it too
between_marked : (watching : Bool) (from sn n : ℕ) → from ≡ cond watching 1 sn → is_between from (sn + 1) n ≡ cond watching (below_first (suc sn) n) (n == sn)
between_marked false from sn n e = rw e (between_one sn n)
between_marked true from sn n e = let s : sn + 1 ≡ suc sn = omega arith in rw (e, s) refl

-- marks without a hole stay so where a range from 1 on is added
whole_more : (m m' : ℕ → ℕ → Bool) (w until : ℕ) → IsWhole m → AddsMarks m m' w (is_between 1 until) → IsWhole m'
whole_more m m' w until whole adds v n k h low le = adds v k ∙ elim (or_cases (m v n) ((w == v) && is_between 1 until n) (sym (adds v n) ∙ h)) [
  | inl old ↦ or_left (m v k) ((w == v) && is_between 1 until k) (whole v n k old low le)
  | inr new ↦
      let p = and_parts (w == v) (is_between 1 until n) new in
      let less = ltb-true n until (and_parts (leb 1 n) (ltb n until) p.1).1 in
      or_right (m v k) ((w == v) && is_between 1 until k) (and_from (w == v) (is_between 1 until k) p.0 (and_from (leb 1 k) (ltb k until) (le-leb 1 k low) (lt-ltb k until (omega arith))))
]

-- what a DATA with that answer marks
pub marks_after : (watching : Bool) (from sn n : ℕ) (a : Admit) → from ≡ cond watching 1 sn → (not (is_rejected a) && is_between from (sn + 1) n) ≡ marked_by watching (arrival_of a) sn n
marks_after watching from sn n Stored e = between_marked watching from sn n e
marks_after watching from sn n (Overwrote old) e = between_marked watching from sn n e
marks_after watching from sn n (Rejected why) e = refl

-- a watcher's marks have no hole after a DATA
pub whole_after : (m m' : ℕ → ℕ → Bool) (w sn from : ℕ) (watching rejected : Bool) → from ≡ cond watching 1 sn → (watching ≡ true → IsWhole m) → AddsMarks m m' w (λ n. not rejected && is_between from (sn + 1) n) → watching ≡ true → IsWhole m'
whole_after m m' w sn from false rejected e whole adds t = absurd (false≢true t)
whole_after m m' w sn from true false e whole adds t = whole_more m m' w (sn + 1) (whole refl) (subst (λ f. AddsMarks m m' w (is_between f (sn + 1))) e adds)
whole_after m m' w sn from true true e whole adds t = λ v n k h low le. adds v k ∙ or_left (m v k) ((w == v) && false) (whole refl v n k (elim (or_cases (m v n) ((w == v) && false) (sym (adds v n) ∙ h)) [
  | inl old ↦ old
  | inr new ↦ absurd (false≢true (and_parts (w == v) false new).1)
]) low le)

-- the numbers of a range from 1 on are numbers
pub between_numbers : (from until : ℕ) → 1 ≤ from → until ≤ last_number + 1 → OnlyNumbers (is_between from until)
between_numbers from until low high n h =
    let parts = and_parts (leb from n) (ltb n until) h in
    let a : from ≤ n = leb-true from n parts.0 in
    let b : n < until = ltb-true n until parts.1 in
    (omega arith, omega arith)

module _ (m m' : ℕ → ℕ → Bool) (w : ℕ) (more : ℕ → Bool) where
  -- no marked number becomes unmarked
  pub adds_keeps : AddsMarks m m' w more → (v n : ℕ) → m v n ≡ true → m' v n ≡ true
  adds_keeps adds v n h = adds v n ∙ or_left (m v n) _ h

  -- the marks of another writer stay
  pub adds_other : AddsMarks m m' w more → (v n : ℕ) → (w ≡ v → ⊥) → m' v n ≡ m v n
  adds_other adds v n other = adds v n ∙ ap (λ b. m v n || b) (and_left (w == v) (more n) (ne_eqb w v other)) ∙ or_false (m v n)

  -- what is added is marked
  pub adds_itself : AddsMarks m m' w more → (n : ℕ) → more n ≡ true → m' w n ≡ true
  adds_itself adds n h = adds w n ∙ or_right (m w n) _ (and_from (w == w) (more n) (eq-eqb w w refl) h)

  -- numbers stay numbers where numbers are added
  pub adds_numbers : AddsMarks m m' w more → AreNumbers m → OnlyNumbers more → AreNumbers m'
  adds_numbers adds numbers fits v n h = elim (or_cases (m v n) ((w == v) && more n) (sym (adds v n) ∙ h)) [
    | inl old ↦ numbers v n old
    | inr new ↦ fits n (and_parts (w == v) (more n) new).1
  ]

  -- samples that were marked stay marked
  pub adds_received : AddsMarks m m' w more → (st : List Sample) → All (λ y. m y.writer y.sn ≡ true) st → All (λ y. m' y.writer y.sn ≡ true) st
  adds_received adds st h = λ k d inside. adds_keeps adds _ _ (h k d inside)

-- what came before is what is marked, as a watcher's marks have no hole
pub repeats : (watching : Bool) (m : ℕ → ℕ → Bool) (w n : ℕ) → 1 ≤ n → (watching ≡ true → IsWhole m) → is_repeat watching (m w) n ≡ m w n
repeats watching m w n low whole = repeat_is_marked watching (m w) n low (λ watches k. whole watches w n k)
