-- The first of those that pass a test, and what lists of several come to, as loops add them up.
use Rattle.std.proofs.Common.{ℕ, zero, suc, Bool, true, false, ◌≡◌, ◌∙◌, ◌+◌, ◌<◌, ◌≤◌, List, [], ◌∷◌, ◌++◌, length, refl, sym, ap, subst, arith, add-one, take, get_or, cond, inl, inr}
use Rattle.std.specs.Prelude.{filter}
use Rattle.std.proofs.Math.Nat.{min-eq_left, min-eq_right}
use Rattle.std.proofs.lemmas.Bool.{cases_lt}
use Rattle.std.proofs.lemmas.List.{take_all}
use Rattle.std.proofs.lemmas.List.Elements.{filter_more}
use Rattle.dds_lint.specs.Every.{every_below}
use Rattle.dds_findings.specs.Blocks.{counted}

nothing_more : {X : Type 0} (ys : List X) → ys ++ [] ≡ ys
nothing_more [] = refl
nothing_more (y ∷ ys) = ap (λ zs. y ∷ zs) (nothing_more ys)

in_two : {X : Type 0} (xs ys zs : List X) → (xs ++ ys) ++ zs ≡ xs ++ (ys ++ zs)
in_two [] ys zs = refl
in_two (x ∷ xs) ys zs = ap (λ l. x ∷ l) (in_two xs ys zs)

-- ── what a loop adds to a list, a list each time
every_below_start : {A : Type 0} (f : ℕ → List A) → every_below 0 f ≡ []
unfolding every_below
every_below_start f = refl

every_below_more : {A : Type 0} (f : ℕ → List A) (i : ℕ) → every_below (i + 1) f ≡ every_below i f ++ f i
unfolding every_below
every_below_more f i = rw add-one refl

pub added_first : {A : Type 0} (start : List A) (f : ℕ → List A) → start ≡ start ++ every_below 0 f
added_first start f = sym (ap (λ ys. start ++ ys) (every_below_start f) ∙ nothing_more start)

pub added_next : {A : Type 0} (start now next : List A) (f : ℕ → List A) (i : ℕ) → now ≡ start ++ every_below i f → next ≡ now ++ f i → next ≡ start ++ every_below (i + 1) f
added_next start now next f i so_far added = added ∙ (ap (λ ys. ys ++ f i) so_far ∙ (in_two start (every_below i f) (f i) ∙ ap (λ ys. start ++ ys) (sym (every_below_more f i))))

-- a list with fewer elements than are taken is taken whole
short : {X : Type 0} (n : ℕ) (ys : List X) → length (take n ys) < n → take n ys ≡ ys
short zero ys less = absurd (omega (arith, less))
short (suc n) [] less = refl
short (suc n) (y ∷ ys) less = ap (λ zs. y ∷ zs) (short n ys (omega (arith, less)))

one_more : {X : Type 0} (ys : List X) (y : X) (n : ℕ) → length ys < n → length (ys ++ y ∷ []) ≤ n
one_more [] y n less = omega (arith, less)
one_more (z ∷ ys) y zero less = absurd (omega (arith, less))
one_more (z ∷ ys) y (suc n) less = omega (arith, one_more ys y n (omega (arith, less)))

-- the first 1,000 of a list that gets one more element: with it where there's room
take_room : {X : Type 0} (xs : List X) (x : X) → length (take 1000 xs) < 1000 → take 1000 (xs ++ x ∷ []) ≡ take 1000 xs ++ x ∷ []
take_room xs x room =
    let whole : take 1000 xs ≡ xs = short 1000 xs room in
    let few : length xs < 1000 = subst (λ ys. length ys < 1000) whole room in
    take_all 1000 (xs ++ x ∷ []) (one_more xs x 1000 few) ∙ ap (λ ys. ys ++ x ∷ []) (sym whole)

take_full : {X : Type 0} (n : ℕ) (xs ys : List X) → n ≤ length (take n xs) → take n (xs ++ ys) ≡ take n xs
take_full zero xs ys full = refl
take_full (suc n) [] ys full = absurd (omega (arith, full))
take_full (suc n) (x ∷ xs) ys full = ap (λ zs. x ∷ zs) (take_full n xs ys (omega (arith, full)))

-- ── one more element of a list
pub first_added : {X : Type 0} (p : X → Bool) (xs first : List X) (i : ℕ) (x : X) → i < length xs → x ≡ get_or xs i x → first ≡ take 1000 (filter p (take i xs)) → length first < 1000 → p x ≡ true
    → first ++ x ∷ [] ≡ take 1000 (filter p (take (i + 1) xs))
first_added p xs first i x inside at is room passes =
    let here : p (get_or xs i x) ≡ true = subst (λ y. p y ≡ true) at passes in
    let more : filter p (take (i + 1) xs) ≡ filter p (take i xs) ++ get_or xs i x ∷ [] = filter_more p xs i x inside ∙ ap (λ b. filter p (take i xs) ++ cond b (get_or xs i x ∷ []) []) here in
    sym (ap (take 1000) (more ∙ ap (λ y. filter p (take i xs) ++ y ∷ []) (sym at))
    ∙ (take_room (filter p (take i xs)) x (subst (λ ys. length ys < 1000) is room) ∙ ap (λ ys. ys ++ x ∷ []) (sym is)))

pub first_full : {X : Type 0} (p : X → Bool) (xs first : List X) (i : ℕ) (x : X) → i < length xs → first ≡ take 1000 (filter p (take i xs)) → 1000 ≤ length first
    → first ≡ take 1000 (filter p (take (i + 1) xs))
first_full p xs first i x inside is full =
    is ∙ sym (ap (take 1000) (filter_more p xs i x inside) ∙ take_full 1000 (filter p (take i xs)) (cond (p (get_or xs i x)) (get_or xs i x ∷ []) []) (subst (λ ys. 1000 ≤ length ys) is full))

pub first_passed : {X : Type 0} (p : X → Bool) (xs first : List X) (i : ℕ) (x : X) → i < length xs → x ≡ get_or xs i x → first ≡ take 1000 (filter p (take i xs)) → p x ≡ false
    → first ≡ take 1000 (filter p (take (i + 1) xs))
first_passed p xs first i x inside at is fails =
    let here : p (get_or xs i x) ≡ false = subst (λ y. p y ≡ false) at fails in
    is ∙ sym (ap (take 1000) (filter_more p xs i x inside ∙ ap (λ b. filter p (take i xs) ++ cond b (get_or xs i x ∷ []) []) here ∙ nothing_more (filter p (take i xs))))

pub ruleset first_of = (first_added, first_full, first_passed)

-- ── sums as far as they're counted
pub counted_more : (a s b : ℕ) → a ≡ counted s → counted (a + b) ≡ counted (s + b)
counted_more a s b is = elim (cases_lt s 18446744073709551615) [
  | inl below ↦
      let le : s ≤ 18446744073709551615 = omega (arith, below) in
      let e : a ≡ s = is ∙ min-eq_left le in
      ap (λ w. counted (w + b)) e
  | inr past ↦
      let e : a ≡ 18446744073709551615 = is ∙ min-eq_right past in
      let one : 18446744073709551615 ≤ a + b = omega (arith, e) in
      let two : 18446744073709551615 ≤ s + b = omega (arith, past) in
      min-eq_right one ∙ sym (min-eq_right two)
]
