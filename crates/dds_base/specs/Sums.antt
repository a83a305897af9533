-- Sums and least numbers below a bound, and functions changed at one place.
use Rattle.std.specs.Prelude.{ℕ, zero, suc, ◌+◌, Bool, false, ◌||◌, if◌then◌else◌, List, [], ◌∷◌, ◌≡◌, ◌⊎◌, ◌==◌}

-- f 0 + .. + f (n - 1)
unfoldable pub total : ℕ → (ℕ → ℕ) → ℕ
total zero f = 0
total (suc n) f = total n f + f n

-- the sum over the pairs of a number below n and one below m
abbrev pub total_pairs : ℕ → ℕ → (ℕ → ℕ → ℕ) → ℕ
total_pairs n m f = total n (λ i. total m (f i))

abbrev pub bit : Bool → ℕ
bit b = if b then 1 else 0

-- how many numbers below n pass
abbrev pub count_below : ℕ → (ℕ → Bool) → ℕ
count_below n p = total n (λ i. bit (p i))

-- one of the numbers below n passes
unfoldable pub any_below : ℕ → (ℕ → Bool) → Bool
any_below zero p = false
any_below (suc n) p = p n || any_below n p

-- the least of the numbers from, .., from + fuel - 1 that passes, else from + fuel
unfoldable pub least : (ℕ → Bool) → ℕ → ℕ → ℕ
least p zero from = from
least p (suc fuel) from = let later = least p fuel (suc from) in if p from then from else later

-- f, but v at i
abbrev pub put : {A : Type 0} → (ℕ → A) → ℕ → A → ℕ → A
put f i v j = if i == j then v else f j

-- x is an element
abbrev pub In : {A : Type 0} → A → List A → Type 0
In x [] = ⊥
In x (y ∷ ys) = (y ≡ x) ⊎ In x ys
