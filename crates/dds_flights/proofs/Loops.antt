-- A walk that writes f x over each element x of a list.
use Rattle.std.proofs.Common.{◌≡◌, ℕ, zero, suc, ◌<◌, List, [], ◌∷◌, ◌++◌, length, map, take, drop, get_or, refl, ap, ◌∙◌, arith}

ahead : {X : Type 0} (f : X → X) (xs : List X) (i : ℕ) (x : X) → i < length xs → get_or (map f (take i xs) ++ drop i xs) i x ≡ get_or xs i x
ahead f [] i x within = absurd (omega arith)
ahead f (y ∷ ys) zero x within = refl
ahead f (y ∷ ys) (suc i) x within = ahead f ys i x (omega arith)

-- the next element is still the one of the list
pub next_is : {X : Type 0} (f : X → X) (xs ys : List X) (i : ℕ) (x : X) → i < length xs → ys ≡ map f (take i xs) ++ drop i xs → get_or ys i x ≡ get_or xs i x
next_is f xs ys i x within walked = ap (λ zs. get_or zs i x) walked ∙ ahead f xs i x within
