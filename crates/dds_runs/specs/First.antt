-- The first of several that is there, and tests of lists and of every number below a bound.
use Rattle.std.specs.Prelude.{◌≡◌, ◌<◌, ◌≤◌, ℕ, zero, suc, Bool, true, false, ◌&&◌, Option, Some, None, List, [], ◌∷◌, length, slice_get}
use Rattle.std.specs.Option.{option_map_or}

-- the first, and else the second
infixr 5 ◌orElse◌
abbrev pub ◌orElse◌ : {A : Type 0} → Option A → Option A → Option A
Some x orElse o = Some x
None orElse o = o

-- the first that is there of f 0, .., f (n - 1)
unfoldable pub first_below : {A : Type 0} → ℕ → (ℕ → Option A) → Option A
first_below zero f = None
first_below (suc n) f = first_below n f orElse f n

-- f of the element at a place, and of the place
abbrev pub at_item : {X A : Type 0} → List X → (X → ℕ → Option A) → ℕ → Option A
at_item xs f i = option_map_or (λ x. f x i) (slice_get xs i) None

-- the first that is there of f x 0, f y 1, .. for the elements x, y, .. of a list
abbrev pub first_in : {X A : Type 0} → List X → (X → ℕ → Option A) → Option A
first_in xs f = first_below (length xs) (at_item xs f)

-- the list has no element
abbrev pub is_empty : {A : Type 0} → List A → Bool
is_empty [] = true
is_empty (x ∷ xs) = false

-- each of f 0, .., f (n - 1) holds
unfoldable pub all_below : ℕ → (ℕ → Bool) → Bool
all_below zero f = true
all_below (suc n) f = all_below n f && f n

-- no element of the list before place n passes
abbrev pub NoneBefore : {X : Type 0} → List X → (X → Bool) → ℕ → Type 0
NoneBefore {X} xs passes n = (i : ℕ) (x : X) → i < n → slice_get xs i ≡ Some x → passes x ≡ false

-- n is the place of the first element before `end` that passes, or `end` where none does
pub record IsFirstBefore {X : Type 0} (xs : List X) (passes : X → Bool) (end n : ℕ) : Type 0 where
  pub within : n ≤ end
  pub before : NoneBefore xs passes n
  pub here : (x : X) → n < end → slice_get xs n ≡ Some x → passes x ≡ true
