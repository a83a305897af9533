-- Lists in the order of their elements' numbers: a stable sort gives the list that puts each element in its place.
use Rattle.std.proofs.Common.{ℕ, zero, suc, ◌≡◌, ◌+◌, ◌<◌, ◌≤◌, ◌==◌, ◌&&◌, ◌||◌, not, nat_lt, Bool, true, false, cond, List, [], ◌∷◌, length, get_or, filter, refl, sym, ap, ◌∙◌, subst, arith, inl, inr}
use Rattle.std.specs.List.{list_any, list_all}
use Rattle.std.specs.List.Sorted.{IsNonDecreasingBy, IsStableByKey, ties}
use Rattle.std.specs.Ordering.{is_lt, nat_cmp}
use Rattle.std.proofs.lemmas.Bool.{cases_lt, cases_eq, eq-eqb, eqb-true, ne_eqb, lt-ltb, le-ltb}
use Rattle.std.proofs.lemmas.Bool.Decides.{nat_tests}
use Rattle.dds_base.proofs.Bools.{both_parts, is_not, neither}
use Rattle.dds_weights.specs.declared.certificate.Weight.{Weight}
use Rattle.dds_weights.specs.Fits.{is_distinct, same_weight_place, weights_fit}
use Rattle.dds_weights.specs.Places.{weight_number}
use Rattle.dds_weights.specs.Order.{put_in_order, by_number, in_order}

module _ {X : Type 0} (n : X → ℕ) where
  -- the elements of one number
  abbrev pub those_of : ℕ → List X → List X
  those_of t xs = filter (λ x. n x == t) xs

  -- no element has a number below t
  abbrev pub NoneBelow : ℕ → List X → Type 0
  NoneBelow t [] = Unit {0}
  NoneBelow t (x ∷ xs) = (t ≤ n x) × NoneBelow t xs

  -- the numbers don't fall
  abbrev pub IsOrdered : List X → Type 0
  IsOrdered [] = Unit {0}
  IsOrdered (x ∷ xs) = NoneBelow (n x) xs × IsOrdered xs

  none_lower : (s t : ℕ) (xs : List X) → s ≤ t → NoneBelow t xs → NoneBelow s xs
  none_lower s t [] le h = tt
  none_lower s t (x ∷ xs) le h = let here = h.0 in (omega arith, none_lower s t xs le h.1)

  none_of : (t : ℕ) (s : ℕ) (xs : List X) → t < s → NoneBelow s xs → those_of t xs ≡ []
  none_of t s [] low h = refl
  none_of t s (x ∷ xs) low h =
      let other : (n x == t) ≡ false = ne_eqb (n x) t (λ e. let up = h.0 in omega arith) in
      rw other (none_of t s xs low h.1)

  here_of : (x : X) (xs : List X) → those_of (n x) (x ∷ xs) ≡ x ∷ those_of (n x) xs
  here_of x xs = rw (eq-eqb (n x) (n x) refl) refl

  not_of : (t : ℕ) (x : X) (xs : List X) → (n x == t) ≡ false → those_of t (x ∷ xs) ≡ those_of t xs
  not_of t x xs e = rw e refl

  heads : (x y : X) (xs ys : List X) → x ∷ xs ≡ y ∷ ys → (x ≡ y) × (xs ≡ ys)
  heads x y xs ys e = (cc, cc)

  empty_not : (x : X) (xs : List X) → x ∷ xs ≡ [] → ⊥
  empty_not x xs e = cc

  -- two ordered lists with the same elements of each number are the same
  pub ordered_same : (xs ys : List X) → IsOrdered xs → IsOrdered ys → ((t : ℕ) → those_of t xs ≡ those_of t ys) → xs ≡ ys
  ordered_same [] [] one two same = refl
  ordered_same [] (y ∷ ys) one two same = absurd (empty_not y (those_of (n y) ys) (sym (same (n y) ∙ here_of y ys)))
  ordered_same (x ∷ xs) [] one two same = absurd (empty_not x (those_of (n x) xs) (sym (here_of x xs) ∙ same (n x)))
  ordered_same (x ∷ xs) (y ∷ ys) one two same = elim (cases_lt (n x) (n y)) [
    | inl low ↦ absurd (empty_not x (those_of (n x) xs) (sym (here_of x xs) ∙ same (n x) ∙ none_of (n x) (n y) (y ∷ ys) low (omega arith, two.0)))
    | inr le ↦ elim (cases_lt (n y) (n x)) [
      | inl low ↦ absurd (empty_not y (those_of (n y) ys) (sym (here_of y ys) ∙ sym (same (n y)) ∙ none_of (n y) (n x) (x ∷ xs) low (omega arith, one.0)))
      | inr ge ↦ (
          let equal : n x ≡ n y = omega arith in
          let both = heads x y (those_of (n x) xs) (those_of (n y) ys) (sym (here_of x xs) ∙ same (n x) ∙ ap (λ t. those_of t (y ∷ ys)) equal ∙ here_of y ys) in
          let rest : (t : ℕ) → those_of t xs ≡ those_of t ys = λ t. elim (cases_eq (n x) t) [
            | inl e ↦ subst (λ s. those_of s xs ≡ those_of s ys) e (both.1 ∙ ap (λ s. those_of s ys) (sym equal))
            | inr ne ↦ sym (not_of t x xs (ne_eqb (n x) t ne)) ∙ same t ∙ not_of t y ys (ne_eqb (n y) t (λ e. ne (equal ∙ e)))
          ] in
          rw (both.0, ordered_same xs ys one.1 two.1 rest) refl)
    ]
  ]

  -- ── one more element in its place
  put_none_below : (t : ℕ) (x : X) (ys : List X) → t ≤ n x → NoneBelow t ys → NoneBelow t (put_in_order n x ys)
  put_none_below t x [] low h = (low, tt)
  put_none_below t x (y ∷ ys) low h = go (nat_lt (n y) (n x)) (put_none_below t x ys low h.1)
    where
      go : (b : Bool) → NoneBelow t (put_in_order n x ys) → NoneBelow t (cond b (y ∷ put_in_order n x ys) (x ∷ y ∷ ys))
      go true rest = (h.0, rest)
      go false rest = (low, (h.0, h.1))

  put_ordered : (x : X) (ys : List X) → IsOrdered ys → IsOrdered (put_in_order n x ys)
  put_ordered x [] h = (tt, tt)
  put_ordered x (y ∷ ys) h = elim (cases_lt (n y) (n x)) [
    | inl low ↦ rw (lt-ltb (n y) (n x) low) (put_none_below (n y) x ys (omega arith) h.0, put_ordered x ys h.1)
    | inr le ↦ rw (le-ltb (n y) (n x) le) ((le, none_lower (n x) (n y) ys le h.0), (h.0, h.1))
  ]

  put_of : (t : ℕ) (x : X) (ys : List X) → those_of t (put_in_order n x ys) ≡ those_of t (x ∷ ys)
  put_of t x [] = refl
  put_of t x (y ∷ ys) = elim (cases_lt (n y) (n x)) [
    | inl low ↦ rw (lt-ltb (n y) (n x) low) (passed (put_of t x ys) low (n y == t) (n x == t) refl refl)
    | inr le ↦ rw (le-ltb (n y) (n x) le) refl
  ]
    where
      passed : those_of t (put_in_order n x ys) ≡ those_of t (x ∷ ys) → n y < n x → (b c : Bool) → (n y == t) ≡ b → (n x == t) ≡ c → those_of t (y ∷ put_in_order n x ys) ≡ those_of t (x ∷ y ∷ ys)
      passed rest low b false be ce = rw (rest, ce) refl
      passed rest low false true be ce = rw (be, rest, ce) refl
      passed rest low true true be ce = absurd (grind (arith, nat_tests))

  pub by_number_ordered : (xs : List X) → IsOrdered (by_number n xs)
  by_number_ordered [] = tt
  by_number_ordered (x ∷ xs) = put_ordered x (by_number n xs) (by_number_ordered xs)

  pub by_number_of : (t : ℕ) (xs : List X) → those_of t (by_number n xs) ≡ those_of t xs
  by_number_of t [] = refl
  by_number_of t (x ∷ xs) = put_of t x (by_number n xs) ∙ ap (λ zs. cond (n x == t) (x ∷ zs) zs) (by_number_of t xs)

  -- ── what a sort ensures
  none_below_from : (t : ℕ) (xs : List X) → ((k : ℕ) (d : X) → k < length xs → t ≤ n (get_or xs k d)) → NoneBelow t xs
  none_below_from t [] h = tt
  none_below_from t (x ∷ xs) h = (h 0 x (omega arith), none_below_from t xs (λ k d l. h (suc k) d (omega arith)))

  ordered_from : (xs : List X) → IsNonDecreasingBy n xs → IsOrdered xs
  ordered_from [] up = tt
  ordered_from (x ∷ xs) up = (
    none_below_from (n x) xs (λ k d l. up 0 (suc k) d (omega arith) (omega arith)),
    ordered_from xs (λ i j d le l. up (suc i) (suc j) d (omega arith) (omega arith)),
  )

  pub sorted_is : (xs ys : List X) → IsNonDecreasingBy n ys → ((t : ℕ) → those_of t ys ≡ those_of t xs) → ys ≡ by_number n xs
  sorted_is xs ys up stable = ordered_same ys (by_number n xs) (ordered_from ys up) (by_number_ordered xs) (λ t. stable t ∙ sym (by_number_of t xs))

  -- ── tests of all and of one
  put_all : (f : X → Bool) (x : X) (ys : List X) → list_all f (put_in_order n x ys) ≡ (f x && list_all f ys)
  put_all f x [] = refl
  put_all f x (y ∷ ys) = elim (cases_lt (n y) (n x)) [
    | inl low ↦ rw (lt-ltb (n y) (n x) low, put_all f x ys) (swapped (f y) (f x) (list_all f ys))
    | inr le ↦ rw (le-ltb (n y) (n x) le) refl
  ]
    where
      swapped : (p q r : Bool) → (p && (q && r)) ≡ (q && (p && r))
      swapped true q r = refl
      swapped false true r = refl
      swapped false false r = refl

  pub by_number_all : (f : X → Bool) (xs : List X) → list_all f (by_number n xs) ≡ list_all f xs
  by_number_all f [] = refl
  by_number_all f (x ∷ xs) = put_all f x (by_number n xs) ∙ ap (λ b. f x && b) (by_number_all f xs)

  put_any : (f : X → Bool) (x : X) (ys : List X) → list_any f (put_in_order n x ys) ≡ (f x || list_any f ys)
  put_any f x [] = refl
  put_any f x (y ∷ ys) = elim (cases_lt (n y) (n x)) [
    | inl low ↦ rw (lt-ltb (n y) (n x) low, put_any f x ys) (swapped (f y) (f x) (list_any f ys))
    | inr le ↦ rw (le-ltb (n y) (n x) le) refl
  ]
    where
      swapped : (p q r : Bool) → (p || (q || r)) ≡ (q || (p || r))
      swapped true true r = refl
      swapped true false r = refl
      swapped false q r = refl

  by_number_any : (f : X → Bool) (xs : List X) → list_any f (by_number n xs) ≡ list_any f xs
  by_number_any f [] = refl
  by_number_any f (x ∷ xs) = put_any f x (by_number n xs) ∙ ap (λ b. f x || b) (by_number_any f xs)

  -- ── no two the same
  module _ (same : X → X → Bool) (symmetric : (x y : X) → same x y ≡ same y x) where
    put_distinct : (x : X) (ys : List X) → list_any (same x) ys ≡ false → is_distinct same ys ≡ true → is_distinct same (put_in_order n x ys) ≡ true
    put_distinct x [] none h = refl
    put_distinct x (y ∷ ys) none h = elim (cases_lt (n y) (n x)) [
      | inl low ↦ (
          let apart = neither (same x y) (list_any (same x) ys) none in
          let parts = both_parts (not (list_any (same y) ys)) (is_distinct same ys) h in
          let clear : list_any (same y) (put_in_order n x ys) ≡ false = put_any (same y) x ys ∙ rw (symmetric y x, apart.0) (is_not (list_any (same y) ys) parts.0) in
          rw (lt-ltb (n y) (n x) low, clear) (put_distinct x ys apart.1 parts.1))
      | inr le ↦ rw (le-ltb (n y) (n x) le, none) h
    ]

    pub by_number_distinct : (xs : List X) → is_distinct same xs ≡ true → is_distinct same (by_number n xs) ≡ true
    by_number_distinct [] h = refl
    by_number_distinct (x ∷ xs) h =
        let parts = both_parts (not (list_any (same x) xs)) (is_distinct same xs) h in
        put_distinct x (by_number n xs) (by_number_any (same x) xs ∙ is_not (list_any (same x) xs) parts.0) (by_number_distinct xs parts.1)

  -- ── elements that tie are those of one number
  ties_are : (a b : ℕ) → (not (is_lt (nat_cmp a b)) && not (is_lt (nat_cmp b a))) ≡ (b == a)
  ties_are a b = elim (cases_lt a b) [
    | inl low ↦ rw (lt-ltb a b low, ne_eqb b a (λ e. omega arith)) refl
    | inr le ↦ elim (cases_lt b a) [
      | inl high ↦ rw (le-ltb a b le, lt-ltb b a high, ne_eqb b a (λ e. omega arith)) (grind (arith, nat_tests))
      | inr ge ↦ (let e : b ≡ a = omega arith in rw (e, le-ltb a a (omega arith), eq-eqb a a refl) refl)
    ]
  ]

  ties_of : (x : X) (ys : List X) → filter (ties (λ y z. is_lt (nat_cmp (n y) (n z))) x) ys ≡ those_of (n x) ys
  ties_of x [] = refl
  ties_of x (y ∷ ys) = rw (ties_are (n x) (n y), ties_of x ys) refl

  of_number : (t : ℕ) (xs : List X) (x : X) (zs : List X) → those_of t xs ≡ x ∷ zs → n x ≡ t
  of_number t [] x zs e = absurd (empty_not x zs (sym e))
  of_number t (y ∷ ys) x zs e = go (of_number t ys x zs) (n y == t) refl e
    where
      go : (those_of t ys ≡ x ∷ zs → n x ≡ t) → (b : Bool) → (n y == t) ≡ b → cond b (y ∷ those_of t ys) (those_of t ys) ≡ x ∷ zs → n x ≡ t
      go rest true at e = sym (ap n (heads y x (those_of t ys) zs e).0) ∙ eqb-true (n y) t at
      go rest false at e = rest e

  pub stable_of : (xs ys : List X) → IsStableByKey n nat_cmp xs ys → (t : ℕ) → those_of t ys ≡ those_of t xs
  stable_of xs ys stable t = go (those_of t ys) (those_of t xs) refl refl
    where
      at : (x : X) → n x ≡ t → those_of t ys ≡ those_of t xs
      at x e = subst (λ s. those_of s ys ≡ those_of s xs) e (sym (ties_of x ys) ∙ stable x ∙ ties_of x xs)

      go : (us vs : List X) → those_of t ys ≡ us → those_of t xs ≡ vs → those_of t ys ≡ those_of t xs
      go [] [] u v = u ∙ sym v
      go (x ∷ us) vs u v = at x (of_number t ys x us u)
      go [] (x ∷ vs) u v = at x (of_number t xs x vs v)

equal_same : (a b : ℕ) → (a == b) ≡ (b == a)
equal_same a b = grind (arith, nat_tests)

place_same : (x y : Weight ℕ) → same_weight_place x y ≡ same_weight_place y x
place_same x y = rw (equal_same y.endpoint x.endpoint, equal_same y.key x.key) refl

-- weights that fit do so in order as well
pub in_order_fits : (has_key : ℕ → ℕ → Bool) (xs : List (Weight ℕ)) → weights_fit has_key xs ≡ true → weights_fit has_key (in_order (λ n. n) xs) ≡ true
in_order_fits has_key xs h =
    let number : Weight ℕ → ℕ = weight_number (λ n. n) in
    let test : Weight ℕ → Bool = λ x. has_key x.endpoint x.key in
    let parts = both_parts (list_all test xs) (is_distinct same_weight_place xs) h in
    rw (by_number_all number test xs, parts.0) (by_number_distinct number same_weight_place place_same xs parts.1)
