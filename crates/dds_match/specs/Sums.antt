-- Sums of numbers of which each may be missing.
use Rattle.std.specs.Prelude.{ℕ, ◌+◌, List, [], ◌∷◌, Option, Some, None}

-- a sum that is there, and a number that is
abbrev pub add_both : Option ℕ → Option ℕ → Option ℕ
add_both (Some n) (Some m) = Some (n + m)
add_both _ _ = None

-- the sum of what the function has of each element of a list, none where it has none of one
abbrev pub sum_of : {A : Type 0} → (A → Option ℕ) → List A → Option ℕ
sum_of f [] = Some 0
sum_of f (x ∷ xs) = add_both (f x) (sum_of f xs)
