-- Columns that are kept, where the others are dropped since a sum has a number below 0 there.
use Rattle.std.specs.Prelude.{◌≡◌, ◌+◌, ℕ, ℤ, int_lt, pos, if◌then◌else◌, List, [], ◌∷◌, slice_index_or}
use Rattle.dds_simplex.specs.declared.dictionary.Basic.{Basic}
use Rattle.dds_simplex.specs.declared.line.Line.{Line}

-- of items that stand from a column on, those in whose columns a sum has no number below 0, in their order
abbrev pub kept_from : {A : Type 0} → List ℤ → ℕ → List A → List A
kept_from sum column [] = []
kept_from sum column (x ∷ xs) = if int_lt (slice_index_or sum column (pos 0)) (pos 0) then kept_from sum (column + 1) xs else x ∷ kept_from sum (column + 1) xs

-- of the items of all columns
abbrev pub kept_columns : {A : Type 0} → List ℤ → List A → List A
kept_columns sum xs = kept_from sum 0 xs

-- a line without the columns that are dropped
abbrev pub IsLineKept : List ℤ → Line → Line → Type 0
IsLineKept sum old new = (new.den ≡ old.den) × (new.constant ≡ old.constant) × (new.numbers.items ≡ kept_columns sum old.numbers.items)

-- a variable that isn't free keeps its name
abbrev pub IsBasicKept : List ℤ → Basic → Basic → Type 0
IsBasicKept sum old new = (new.variable ≡ old.variable) × IsLineKept sum old.line new.line
