-- Entries that are found by their numbers: where a halving finds one, and what a change of that one alone is.
use Rattle.std.proofs.Common.{◌≡◌, ℕ, ◌+◌, ◌-◌, ◌<◌, ◌≤◌, ◌==◌, Bool, true, false, cond, List, [], ◌∷◌, length, get_or, set, map, None, Some, Ok, Err, nat_lt, position, refl, sym, ap, ◌∙◌, arith, inl, inr}
use Rattle.std.specs.Prelude.{is_some}
use Rattle.std.specs.List.{list_any, position_or_len}
use Rattle.std.specs.List.Sorted.{IsSearchInRange, IsBinarySearchResult, IsNonDecreasingBy}
use Rattle.std.specs.Ordering.{nat_cmp, ordering_index}
use Rattle.std.proofs.lemmas.Cmp.{ranked}
use Rattle.std.proofs.lemmas.Bool.{cases_eq, cases_lt, lt-ltb, le-ltb, eqb-true, eq-eqb, ne_eqb, cond-true}
use Rattle.std.proofs.lemmas.Bool.Decides.{nat_tests}
use Rattle.std.proofs.lemmas.List.{ext_get_or, length-map, length-set, get_or-map, get_or-set_same, get_or-set_other, get_or_default}
use Rattle.std.proofs.lemmas.List.Sums.{position_or_len_is, fails_before_first}
use Rattle.std.proofs.lemmas.List.Quantifiers.{position-Some}
use Rattle.dds_base.specs.Numbered.{AreRising}
use Rattle.dds_base.proofs.Places.{list_any-position}

-- ── the first place at which a test passes
module _ {X : Type 0} (p : X → Bool) (xs : List X) where
  -- it is this one
  pub position_is : (i : ℕ) (d : X) → i < length xs → p (get_or xs i d) ≡ true → ((k : ℕ) → k < i → p (get_or xs k d) ≡ false) → position p xs ≡ Some i
  position_is i d within here before =
      let at : position_or_len p xs ≡ i = position_or_len_is p xs i d (omega arith) before (λ inside. here) in
      rw (at, lt-ltb i (length xs) within) refl

  -- there is none
  pub position_none : ((k : ℕ) (d : X) → k < length xs → p (get_or xs k d) ≡ false) → position p xs ≡ None
  position_none fails = none xs refl
    where
      none : (ys : List X) → ys ≡ xs → position p xs ≡ None
      none [] e = rw (← e) refl
      none (y ∷ ys) e =
          let at : position_or_len p xs ≡ length xs = position_or_len_is p xs (length xs) y (omega arith) (λ k below. fails k y below) (λ inside. absurd (omega arith)) in
          rw (at, le-ltb (length xs) (length xs) (omega arith)) refl

  -- where there is none, each fails
  pub fails_nowhere : position p xs ≡ None → (k : ℕ) (d : X) → k < length xs → p (get_or xs k d) ≡ false
  fails_nowhere missing k d within = elim (cases_lt (position_or_len p xs) (length xs)) [
    | inl found ↦ absurd (let h : Some (position_or_len p xs) ≡ None = sym (cond-true _ (Some (position_or_len p xs)) None (lt-ltb _ _ found)) ∙ missing in cc)
    | inr past ↦ fails_before_first p xs k d (omega arith)
  ]

  -- there is one exactly where the test passes somewhere
  pub is_some-position : is_some (position p xs) ≡ list_any p xs
  is_some-position = told (nat_lt (position_or_len p xs) (length xs)) (position_or_len p xs) ∙ sym (list_any-position p xs)
    where
      told : (b : Bool) (i : ℕ) → is_some (cond b (Some i) None) ≡ b
      told true i = refl
      told false i = refl

module _ {X : Type 0} (number : X → ℕ) (xs : List X) where
  -- ── entries whose numbers rise
  -- one more entry y, above the entry x before it
  pub rising_more : (at : ℕ) (x y : X) → 1 ≤ at → at < length xs → ((i j : ℕ) (d : X) → i < j → j < at → number (get_or xs i d) < number (get_or xs j d)) → x ≡ get_or xs (at - 1) x → y ≡ get_or xs at y → number x < number y
      → (i j : ℕ) (d : X) → i < j → j < at + 1 → number (get_or xs i d) < number (get_or xs j d)
  rising_more at x y from inside below before here up i j d lt within = elim (cases_eq j at) [
    | inl e ↦ rw (e, get_or_default xs at d y inside, ← here) (elim (cases_eq i (at - 1)) [
      | inl last ↦ rw (last, get_or_default xs (at - 1) d x (omega arith), ← before) up
      | inr ne ↦ (
          let low = below i (at - 1) d (omega arith) (omega arith) in
          let same : number (get_or xs (at - 1) d) ≡ number x = ap number (get_or_default xs (at - 1) d x (omega arith) ∙ sym before) in
          omega arith)
    ])
    | inr ne ↦ below i j d lt (omega arith)
  ]

  -- the entry y, not above the entry x before it
  pub rising_broken : (at : ℕ) (x y : X) → 1 ≤ at → at < length xs → x ≡ get_or xs (at - 1) x → y ≡ get_or xs at y → number y ≤ number x → AreRising number xs → ⊥
  rising_broken at x y from inside before here down rising =
      let up = rising (at - 1) at x (omega arith) inside in
      let low : number (get_or xs (at - 1) x) ≡ number x = ap number (sym before) in
      let high : number (get_or xs at x) ≡ number y = ap number (get_or_default xs at x y inside ∙ sym here) in
      omega arith

  module _ (rising : AreRising number xs) where
    -- no number stands twice
    pub rising_apart : (i j : ℕ) (d : X) → i < length xs → j < length xs → number (get_or xs i d) ≡ number (get_or xs j d) → i ≡ j
    rising_apart i j d first second same = elim (cases_lt i j) [
      | inl before ↦ absurd (omega (arith, rising i j d before second))
      | inr past ↦ elim (cases_eq i j) [
        | inl e ↦ e
        | inr ne ↦ absurd (let high = rising j i d (omega arith) first in omega arith)
      ]
    ]

    compares : (n : ℕ) → IsNonDecreasingBy (λ y. ordering_index (nat_cmp (number y) n)) xs
    compares n i j d le within = elim (cases_eq i j) [
      | inl e ↦ rw e (omega arith)
      | inr ne ↦ higher (number (get_or xs i d)) (number (get_or xs j d)) (let up = rising i j d (omega arith) within in omega arith)
    ]
      where
        higher : (a b : ℕ) → a ≤ b → ordering_index (nat_cmp a n) ≤ ordering_index (nat_cmp b n)
        higher a b up = grind (arith, nat_tests)

    -- a halving ends at the entry with the number, or there is none
    pub halved_at : (n i : ℕ) → IsSearchInRange (Ok i) (length xs) → IsBinarySearchResult (λ y. nat_cmp (number y) n) xs (Ok i) → position (λ x. number x == n) xs ≡ Some i
    halved_at n i within equal = here xs refl
      where
        at : (d : X) → number (get_or xs i d) ≡ n
        at d = ranked (number (get_or xs i d)) n _ (sym (equal d))

        here : (ys : List X) → ys ≡ xs → position (λ x. number x == n) xs ≡ Some i
        here [] e = absurd (let long : length xs ≡ 0 = sym (ap length e) in omega arith)
        here (y ∷ ys) e = position_is (λ x. number x == n) xs i y within (eq-eqb _ n (at y)) (λ k before. ne_eqb _ n (λ same. (
            let up = rising k i y before within in
            let found = at y in
            omega arith)))

    pub halved_nowhere : (n i : ℕ) → IsBinarySearchResult (λ y. nat_cmp (number y) n) xs (Err i) → position (λ x. number x == n) xs ≡ None
    halved_nowhere n i parted = position_none (λ x. number x == n) xs (λ k d within. ne_eqb _ n (λ same. elim (cases_lt k i) [
      | inl before ↦ (let low : number (get_or xs k d) < n = ranked (number (get_or xs k d)) n _ (sym ((parted (compares n)).0 k d (omega arith) before)) in omega arith)
      | inr past ↦ (let high : n < number (get_or xs k d) = ranked (number (get_or xs k d)) n _ (sym ((parted (compares n)).1 k d past within)) in omega arith)
    ]))

    -- ── a change of the entry with a number, and of no other
    pub changed_at : (n i : ℕ) (g : X → X) (x y : X) → position (λ z. number z == n) xs ≡ Some i → ((z : X) → (number z == n) ≡ false → g z ≡ z) → x ≡ get_or xs i x → y ≡ g x → set xs i y ≡ map g xs
    changed_at n i g x y found keeps read written =
        let place = position-Some (λ z. number z == n) xs i x found in
        ext_get_or x (set xs i y) (map g xs) (length-set xs i y ∙ sym (length-map xs g)) (λ k inside. (
        let within : k < length xs = omega (arith, length-set xs i y) in
        elim (cases_eq k i) [
          | inl e ↦ rw (e, get_or-set_same xs i y x place.0, get_or-map g xs i x x place.0) (written ∙ ap g read)
          | inr ne ↦ (
              let other : (number (get_or xs k x) == n) ≡ false = ne_eqb (number (get_or xs k x)) n (λ same. ne (rising_apart k i x within place.0 (same ∙ sym (eqb-true (number (get_or xs i x)) n place.1)))) in
              get_or-set_other xs i k y x ne ∙ sym (keeps (get_or xs k x) other) ∙ sym (get_or-map g xs k x x within))
        ]))

    -- the same by the change f that the entry has
    pub changed_by : (n i : ℕ) (g f : X → X) (x : X) → position (λ z. number z == n) xs ≡ Some i → ((z : X) → (number z == n) ≡ true → g z ≡ f z) → ((z : X) → (number z == n) ≡ false → g z ≡ z) → x ≡ get_or xs i x → set xs i (f x) ≡ map g xs
    changed_by n i g f x found changes keeps read =
        let place = position-Some (λ z. number z == n) xs i x found in
        let its : (number x == n) ≡ true = ap (λ z. number z == n) read ∙ place.1 in
        changed_at n i g x (f x) found keeps read (sym (changes x its))

  -- where no entry has the number nothing changes
  pub changed_nowhere : (n : ℕ) (g : X → X) → position (λ z. number z == n) xs ≡ None → ((z : X) → (number z == n) ≡ false → g z ≡ z) → map g xs ≡ xs
  changed_nowhere n g missing keeps = same xs refl
    where
      same : (ys : List X) → ys ≡ xs → map g xs ≡ xs
      same [] e = rw (← e) refl
      same (y ∷ ys) e = ext_get_or y (map g xs) xs (length-map xs g) (λ k inside. (
          let within : k < length xs = omega (arith, length-map xs g) in
          get_or-map g xs k y y within ∙ keeps (get_or xs k y) (fails_nowhere (λ z. number z == n) xs missing k y within)))

-- ── rising numbers after a map
-- the entries that f makes rise where their numbers do
pub rising_map : {X Y : Type 0} (number : X → ℕ) (f : Y → X) (ys : List Y) → AreRising (λ y. number (f y)) ys → AreRising number (map f ys)
rising_map number f [] rising i j d lt within = absurd (omega arith)
rising_map number f (y ∷ ys) rising i j d lt within =
    let inside : j < length (y ∷ ys) = omega (arith, length-map (y ∷ ys) f) in
    rw (get_or-map f (y ∷ ys) i y d (omega arith), get_or-map f (y ∷ ys) j y d inside) (rising i j y lt inside)

pub rising_unmap : {X Y : Type 0} (number : X → ℕ) (f : Y → X) (ys : List Y) → AreRising number (map f ys) → AreRising (λ y. number (f y)) ys
rising_unmap number f ys rising i j d lt within =
    let up = rising i j (f d) lt (rw (length-map ys f) within) in
    rw (get_or-map f ys i d (f d) (omega arith), get_or-map f ys j d (f d) within) at up

-- they rise exactly where the list of their numbers does
pub rising_numbers : {X : Type 0} (number : X → ℕ) (xs : List X) → AreRising number xs → AreRising (λ n. n) (map number xs)
rising_numbers number xs rising = rising_map (λ n. n) number xs rising

pub rising_from_numbers : {X : Type 0} (number : X → ℕ) (xs : List X) → AreRising (λ n. n) (map number xs) → AreRising number xs
rising_from_numbers number xs rising = rising_unmap (λ n. n) number xs rising

-- a change that keeps each number keeps them rising
pub rising_stays : {X : Type 0} (number : X → ℕ) (g : X → X) (xs : List X) → ((x : X) → number (g x) ≡ number x) → AreRising number xs → AreRising number (map g xs)
rising_stays number g xs keeps rising = rising_map number g xs (λ i j d lt within. omega (arith, keeps (get_or xs i d), keeps (get_or xs j d), rising i j d lt within))
