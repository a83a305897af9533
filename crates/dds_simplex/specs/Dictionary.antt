-- Dictionaries of the simplex method.
use Rattle.std.specs.Prelude.{◌<◌, ◌==◌, ◌<ℤ◌, ◌≤ℤ◌, ℕ, Bool, false, List, Option, find, map, option_map, pos, slice_index_or, vec_len}
use Rattle.std.specs.List.{All, range_with_len}
use Rattle.dds_simplex.specs.declared.dictionary.Dictionary.{Dictionary}
use Rattle.dds_simplex.specs.declared.dictionary.Variable.{Variable}
use Rattle.dds_simplex.specs.declared.dictionary.Variable.TheVariants.{Column, Line}
use Rattle.dds_simplex.specs.declared.line.Line as line
use Rattle.dds_simplex.specs.Line.{number_of}

-- so many free variables, each in its column
abbrev pub fresh_columns : ℕ → List Variable
fresh_columns n = map Column (range_with_len 0 n)

-- no free variable would raise the sum
abbrev pub IsGreatest : Dictionary → line.Line → Type 0
IsGreatest d sum = (column : ℕ) → column < vec_len d.free → slice_index_or sum.numbers.items column (pos 0) ≤ℤ pos 0

-- a free variable raises the sum, and none that isn't free falls with it
abbrev pub IsUnbounded : Dictionary → line.Line → Type 0
IsUnbounded d sum = (column : ℕ) × (column < vec_len d.free) × (pos 0 <ℤ number_of sum column) × All (λ b. pos 0 ≤ℤ number_of b.line column) d.basics.items

-- two names are of one variable
abbrev pub is_variable : Variable → Variable → Bool
is_variable (Column a) (Column b) = a == b
is_variable (Line a) (Line b) = a == b
is_variable (Column _) (Line _) = false
is_variable (Line _) (Column _) = false

-- the line of a variable that isn't free, the first of its name
abbrev pub line_of : Dictionary → Variable → Option line.Line
line_of d variable = option_map (λ b. b.line) (find (λ b. is_variable variable b.variable) d.basics.items)
