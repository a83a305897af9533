-- Lists in which no two are the same by a test.
use Rattle.std.proofs.Common.{◌≡◌, ℕ, ◌+◌, ◌<◌, ◌≤◌, Bool, true, false, not, ◌&&◌, ◌||◌, List, [], ◌∷◌, ◌++◌, length, map, take, drop, get_or, suc, refl, sym, ap, ◌∙◌, add-one, take_all, append_assoc}
use Rattle.std.specs.List.{list_any}
use Rattle.std.proofs.Math.Seq.{take-suc, drop-cons}
use Rattle.std.proofs.lemmas.List.{take-append-drop, append-nil}
use Rattle.std.proofs.lemmas.List.Folds.{list_any-append}
use Rattle.dds_base.proofs.Bools.{and_false, both_parts, is_not, neither, or_true}
use Rattle.dds_base.proofs.Lists.{list_any-map}
use Rattle.dds_weights.specs.Fits.{is_distinct}

module _ {X : Type 0} (same : X → X → Bool) where
  none_of_more : (xs : List X) (y : X) (ys : List X) → list_any (λ z. list_any (λ x. same x z) xs) ys ≡ false → list_any (same y) ys ≡ false → list_any (λ z. list_any (λ x. same x z) (xs ++ y ∷ [])) ys ≡ false
  none_of_more xs y [] old new = refl
  none_of_more xs y (z ∷ zs) old new =
      let o = neither (list_any (λ x. same x z) xs) (list_any (λ u. list_any (λ x. same x u) xs) zs) old in
      let n = neither (same y z) (list_any (same y) zs) new in
      let here : list_any (λ x. same x z) (xs ++ y ∷ []) ≡ false = list_any-append (λ x. same x z) xs (y ∷ []) ∙ rw (o.0, n.0) in
      rw (here, none_of_more xs y zs o.1 n.1)

  -- one more at the end
  pushed : (x y : X) (xs : List X) → list_any (same x) xs ≡ false → same x y ≡ false → list_any (same x) (xs ++ y ∷ []) ≡ false
  pushed x y xs old new = list_any-append (same x) xs (y ∷ []) ∙ rw (old, new)

  more : (x y : X) (xs : List X) (b e r : Bool) → list_any (same x) xs ≡ b → same x y ≡ e → is_distinct same xs ≡ r → (not b && r) ≡ true → (e || list_any (λ z. same z y) xs) ≡ false
      → (is_distinct same xs ≡ true → list_any (λ z. same z y) xs ≡ false → is_distinct same (xs ++ y ∷ []) ≡ true) → (not (list_any (same x) (xs ++ y ∷ [])) && is_distinct same (xs ++ y ∷ [])) ≡ true
  more x y xs true e r be ee re h m rest = absurd cc
  more x y xs false true r be ee re h m rest = absurd cc
  more x y xs false false r be ee re h m rest = rw (pushed x y xs be ee, rest (re ∙ h) m)

  pub is_distinct-push : (xs : List X) (y : X) → is_distinct same xs ≡ true → list_any (λ x. same x y) xs ≡ false → is_distinct same (xs ++ y ∷ []) ≡ true
  is_distinct-push [] y d n = refl
  is_distinct-push (x ∷ xs) y d n = more x y xs (list_any (same x) xs) (same x y) (is_distinct same xs) refl refl refl d n (is_distinct-push xs y)

  -- one that an earlier one is the same as
  again : (x y : X) (xs ys : List X) (e : Bool) → same x y ≡ e → (e || list_any (λ z. same z y) xs) ≡ true
      → (list_any (λ z. same z y) xs ≡ true → is_distinct same (xs ++ y ∷ ys) ≡ false) → (not (list_any (same x) (xs ++ y ∷ ys)) && is_distinct same (xs ++ y ∷ ys)) ≡ false
  again x y xs ys true e h rest =
      let found : list_any (same x) (xs ++ y ∷ ys) ≡ true = list_any-append (same x) xs (y ∷ ys) ∙ rw e (or_true (list_any (same x) xs)) in
      rw found
  again x y xs ys false e h rest = rw (rest h) (and_false (not (list_any (same x) (xs ++ y ∷ ys))))

  pub is_distinct-twice : (xs : List X) (y : X) (ys : List X) → list_any (λ x. same x y) xs ≡ true → is_distinct same (xs ++ y ∷ ys) ≡ false
  is_distinct-twice [] y ys h = absurd cc
  is_distinct-twice (x ∷ xs) y ys h = again x y xs ys (same x y) refl h (is_distinct-twice xs y ys)

  -- as a loop goes over the list
  pub distinct_more : (xs : List X) (i : ℕ) (x : X) → i < length xs → x ≡ get_or xs i x → is_distinct same (take i xs) ≡ true → list_any (λ z. same z x) (take i xs) ≡ false → is_distinct same (take (i + 1) xs) ≡ true
  distinct_more xs i x lt at h n = rw (add-one, take-suc xs i x lt, ← at) (is_distinct-push (take i xs) x h n)

  pub distinct_twice : (xs : List X) (i : ℕ) (x : X) → i < length xs → x ≡ get_or xs i x → list_any (λ z. same z x) (take i xs) ≡ true → is_distinct same xs ≡ false
  distinct_twice xs i x lt at h =
      ap (is_distinct same) (sym (take-append-drop i xs) ∙ ap (λ ys. take i xs ++ ys) (drop-cons xs i x lt ∙ ap (λ y. y ∷ drop (suc i) xs) (sym at)))
      ∙ is_distinct-twice (take i xs) x (drop (suc i) xs) h

  pub distinct_all : (xs : List X) (i : ℕ) → length xs ≤ i → is_distinct same (take i xs) ≡ true → is_distinct same xs ≡ true
  distinct_all xs i le h = ap (is_distinct same) (sym (take_all i xs le)) ∙ h

  -- no earlier one is the same as the one at a place
  pub not_before : (xs : List X) (i : ℕ) (x : X) → i < length xs → x ≡ get_or xs i x → is_distinct same xs ≡ true → list_any (λ z. same z x) (take i xs) ≡ false
  not_before xs i x lt at h = by (list_any (λ z. same z x) (take i xs)) refl
    where
      by : (b : Bool) → list_any (λ z. same z x) (take i xs) ≡ b → list_any (λ z. same z x) (take i xs) ≡ false
      by true e = let twice = distinct_twice xs i x lt at e in absurd cc
      by false e = e

  -- several more at the end
  pub is_distinct-append : (xs ys : List X) → is_distinct same xs ≡ true → is_distinct same ys ≡ true → list_any (λ y. list_any (λ x. same x y) xs) ys ≡ false → is_distinct same (xs ++ ys) ≡ true
  is_distinct-append xs [] d e n = ap (is_distinct same) (append-nil xs) ∙ d
  is_distinct-append xs (y ∷ ys) d e n =
      let here = neither (list_any (λ x. same x y) xs) (list_any (λ z. list_any (λ x. same x z) xs) ys) n in
      let apart = both_parts (not (list_any (same y) ys)) (is_distinct same ys) e in
      let grown = is_distinct-push xs y d here.0 in
      let rest = none_of_more xs y ys here.1 (is_not (list_any (same y) ys) apart.0) in
      ap (is_distinct same) (sym (append_assoc xs (y ∷ []) ys)) ∙ is_distinct-append (xs ++ y ∷ []) ys grown apart.1 rest

pub is_distinct-map : {X Y : Type 0} (same : Y → Y → Bool) (f : X → Y) (xs : List X) → is_distinct same (map f xs) ≡ is_distinct (λ x y. same (f x) (f y)) xs
is_distinct-map same f [] = refl
is_distinct-map same f (x ∷ xs) = rw (list_any-map (same (f x)) f xs, is_distinct-map same f xs)
