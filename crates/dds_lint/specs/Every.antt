-- All that is there of several, in order.
use Rattle.std.specs.Prelude.{ℕ, zero, suc, List, [], ◌++◌, length, slice_get, Option}
use Rattle.std.specs.Option.{option_map_or, option_to_list}
use Rattle.dds_runs.specs.First.{at_item}

-- the elements of f 0, then those of f 1, .., at last those of f (n - 1)
unfoldable pub every_below : {A : Type 0} → ℕ → (ℕ → List A) → List A
every_below zero f = []
every_below (suc n) f = every_below n f ++ f n

-- those that are there of f 0, .., f (n - 1)
abbrev pub those_below : {A : Type 0} → ℕ → (ℕ → Option A) → List A
those_below n f = every_below n (λ i. option_to_list (f i))

-- the elements of f x 0, f y 1, .. for the elements x, y, .. of a list
abbrev pub every_in : {X A : Type 0} → List X → (X → ℕ → List A) → List A
every_in xs f = every_below (length xs) (λ i. option_map_or (λ x. f x i) (slice_get xs i) [])

-- those that are there of f x 0, f y 1, .. for the elements x, y, .. of a list
abbrev pub those_in : {X A : Type 0} → List X → (X → ℕ → Option A) → List A
those_in xs f = those_below (length xs) (at_item xs f)
