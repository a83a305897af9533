-- Entries of lists that are found by their numbers.
use Rattle.std.specs.Prelude.{ℕ, ◌<◌, List}
use Rattle.std.specs.List.{AllPairs}

-- each entry has a greater number than every one before it
abbrev pub AreRising : {X : Type 0} → (X → ℕ) → List X → Type 0
AreRising number xs = AllPairs (λ x y. number x < number y) xs
