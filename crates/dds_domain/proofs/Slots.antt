-- A step touches one element of a list: what holds of the others stays.
use Rattle.std.proofs.Common.{◌≡◌, inl, inr, ℕ, zero, suc, ◌<◌, ◌∙◌, [], ◌∷◌, List, length, get_or, set, ap, sym, subst, refl, arith, length-set}
use Rattle.std.proofs.lemmas.Bool.{cases_eq}
use Rattle.std.proofs.lemmas.List.{get_or-set_same, get_or-set_other}
use Rattle.dds_domain.specs.Standing.{AllAt}

-- the i-th element is replaced, and what the others stand for stays
pub set_all : {A X : Type 0} (P : ℕ → A → X → Type 0) (f g : ℕ → A) (xs : List X) (i : ℕ) (y : X) →
    AllAt (λ j x. P j (f j) x) xs → ((j : ℕ) → (i ≡ j → ⊥) → g j ≡ f j) → P i (g i) y → AllAt (λ j x. P j (g j) x) (set xs i y)
set_all P f g xs i y all same at j d within =
    let in_xs : j < length xs = (let e = length-set xs i y in omega arith) in
    elim (cases_eq i j) [
      | inl e ↦ subst (λ k. k < length xs → P k (g k) (get_or (set xs i y) k d)) e (λ below. rw (get_or-set_same xs i y d below) at) in_xs
      | inr ne ↦ rw (same j ne, get_or-set_other xs i j y d (λ e. ne (sym e))) (all j d in_xs)
    ]

-- an element that is put where it stood
pub set_back : {X : Type 0} (xs : List X) (i : ℕ) (x : X) → i < length xs → x ≡ get_or xs i x → set xs i x ≡ xs
set_back [] i x b e = refl
set_back (y ∷ ys) zero x b e = ap (λ z. z ∷ ys) e
set_back (y ∷ ys) (suc i) x b e = ap (λ zs. y ∷ zs) (set_back ys i x (omega arith) e)

-- the element of a number, where the number goes by another name
pub lent_at : {X : Type 0} (xs : List X) (i j : ℕ) (x : X) → j ≡ i → x ≡ get_or xs j x → x ≡ get_or xs i x
lent_at xs i j x number item = subst (λ k. x ≡ get_or xs k x) number item

-- it is put back as it was
pub lent_back : {X : Type 0} (xs : List X) (i j : ℕ) (x y : X) → j ≡ i → x ≡ get_or xs j x → i < length xs → y ≡ x → set xs j y ≡ xs
lent_back xs i j x y number item b same = (λ k. set xs (number k) (same k)) ∙ set_back xs i x b (lent_at xs i j x number item)

-- a place that is there has its element, whatever stands for places that aren't
pub defaults : {X : Type 0} (xs : List X) (i : ℕ) (x y : X) → i < length xs → get_or xs i x ≡ get_or xs i y
defaults [] i x y b = absurd (omega arith)
defaults (z ∷ zs) zero x y b = refl
defaults (z ∷ zs) (suc i) x y b = defaults zs i x y (omega arith)

-- what stands at one place is one
pub same_at : {X : Type 0} (xs : List X) (i : ℕ) (x y : X) → i < length xs → x ≡ get_or xs i x → y ≡ get_or xs i y → x ≡ y
same_at xs i x y b e f = e ∙ (defaults xs i x y b ∙ sym f)
