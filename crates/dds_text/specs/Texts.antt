-- Texts of a number that may be missing, of words side by side, and of a text for each number below a bound.
use Rattle.std.specs.Prelude.{codes, ℕ, List, ◌++◌, ◌==◌, Option, Some, None, flat_map, if◌then◌else◌}
use Rattle.std.specs.Fmt.{decimal}
use Rattle.std.specs.List.{range_with_len}

-- two words, with a blank between them
abbrev pub two_words : List ℕ → List ℕ → List ℕ
two_words x y = x ++ (codes " " ++ y)

-- three words, with blanks between them
abbrev pub three_words : List ℕ → List ℕ → List ℕ → List ℕ
three_words x y z = x ++ (codes " " ++ (y ++ (codes " " ++ z)))

-- a number, or this text where there is none
abbrev pub number_or : Option ℕ → List ℕ → List ℕ
number_or (Some n) none = decimal n
number_or None none = none

-- what stands before the item at this place of a list: before the first, and before each other
abbrev pub start_of : List ℕ → List ℕ → ℕ → List ℕ
start_of first next i = if i == 0 then first else next

-- the texts for 0, .., n - 1, in this order
abbrev pub each_below : ℕ → (ℕ → List ℕ) → List ℕ
each_below n text = flat_map text (range_with_len 0 n)
