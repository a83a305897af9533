-- A list in the order of places: endpoints first, and then keys. Entries of one place stay in the order that they have.
use Rattle.std.specs.Prelude.{ℕ, nat_lt, List, [], ◌∷◌, if◌then◌else◌}
use Rattle.dds_weights.specs.declared.certificate.Weight.{Weight}
use Rattle.dds_weights.specs.Places.{weight_number}

-- the list with one more element, before the first whose number isn't lower
abbrev pub put_in_order : {X : Type 0} → (X → ℕ) → X → List X → List X
put_in_order number x [] = x ∷ []
put_in_order number x (y ∷ ys) = if nat_lt (number y) (number x) then y ∷ put_in_order number x ys else x ∷ y ∷ ys

-- the elements of a list by rising numbers
abbrev pub by_number : {X : Type 0} → (X → ℕ) → List X → List X
by_number number [] = []
by_number number (x ∷ xs) = put_in_order number x (by_number number xs)

-- the weights of a list by rising places, by the numbers of their endpoints
abbrev pub in_order : {E : Type 0} → (E → ℕ) → List (Weight E) → List (Weight E)
in_order number xs = by_number (weight_number number) xs
