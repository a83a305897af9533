-- Points: the values of variables, each times one scale, so that fractions are whole numbers.
use Rattle.std.specs.Prelude.{◌≡◌, ◌<◌, ◌≤ℤ◌, ◌==◌, ◌+ℤ◌, ◌*ℤ◌, ℕ, ℤ, zero, suc, pos, if◌then◌else◌, List, length, [], ◌∷◌, ◌++◌, slice_index_or, slice_set}
use Rattle.std.specs.List.{All}
use Rattle.dds_simplex.specs.declared.dictionary.Basic.{Basic}
use Rattle.dds_simplex.specs.declared.dictionary.Dictionary.{Dictionary}
use Rattle.dds_simplex.specs.declared.dictionary.Variable.{Variable}
use Rattle.dds_simplex.specs.declared.dictionary.Variable.TheVariants.{Column}
use Rattle.dds_simplex.specs.declared.line.Line.{Line}
use Rattle.dds_simplex.specs.Line.{number_of}

-- the products of numbers and values of the first columns, added up
abbrev pub sum_over : ℕ → (ℕ → ℤ) → (ℕ → ℤ) → ℤ
sum_over zero numbers values = pos 0
sum_over (suc column) numbers values = sum_over column numbers values +ℤ numbers column *ℤ values column

-- what a line says of a variable of this value, where the columns have these values
abbrev pub IsValue : ℕ → (ℕ → ℤ) → ℤ → Line → ℤ → Type 0
IsValue columns values scale l value = l.den *ℤ value ≡ l.constant *ℤ scale +ℤ sum_over columns (number_of l) values

-- values of which that of one column is another
abbrev pub with_value : (ℕ → ℤ) → ℕ → ℤ → ℕ → ℤ
with_value values column value k = if k == column then value else values k

-- the values of the free variables, by column
abbrev pub free_values : (Variable → ℤ) → List Variable → ℕ → ℤ
free_values point free column = point (slice_index_or free column (Column 0))

-- each line of a dictionary says what its variable is
abbrev pub IsPointOf : Dictionary → (Variable → ℤ) → ℤ → Type 0
IsPointOf d point scale = All (λ b. IsValue (length d.free.items) (free_values point d.free.items) scale b.line (point b.variable)) d.basics.items

-- a sum by the free variables has this value
abbrev pub IsSumAt : Dictionary → Line → (Variable → ℤ) → ℤ → ℤ → Type 0
IsSumAt d sum point scale value = IsValue (length d.free.items) (free_values point d.free.items) scale sum value

-- a line in which another one, which says the variable of a column, is put in its place
abbrev pub IsReplaced : ℕ → Line → Line → Line → Type 0
IsReplaced column given old new = (columns : ℕ) (values : ℕ → ℤ) (scale variable value : ℤ) → column < columns →
    IsValue columns values scale given variable → IsValue columns (with_value values column variable) scale old value → IsValue columns values scale new value

-- the same of a variable that isn't free, which keeps its name
abbrev pub IsBasicReplaced : ℕ → Line → Basic → Basic → Type 0
IsBasicReplaced column given old new = (new.variable ≡ old.variable) × IsReplaced column given old.line new.line

-- a line that says the variable of a column in terms of the one that it gave, which takes the column
abbrev pub IsTurned : ℕ → Line → Line → Type 0
IsTurned column old new = (columns : ℕ) (values : ℕ → ℤ) (scale variable value : ℤ) → column < columns →
    IsValue columns (with_value values column variable) scale old value → IsValue columns (with_value values column value) scale new variable

-- a variable that a line gave has taken a column, and the line gives the one that had it
abbrev pub IsExchanged : ℕ → Basic → Dictionary → Dictionary → Type 0
IsExchanged column given old new =
    (new.free.items ≡ slice_set old.free.items column given.variable) ×
    (new.basics.items ≡ old.basics.items ++ record { variable = slice_index_or old.free.items column (Column 0); line = given.line } ∷ [])

-- whatever the variables are that the lines of a dictionary allow, they allow them later too, and the sum has the same value
abbrev pub KeepsPoints : Dictionary → Line → Dictionary → Line → Type 0
KeepsPoints old old_sum new new_sum = (point : Variable → ℤ) (scale value : ℤ) → IsPointOf old point scale → IsSumAt old old_sum point scale value → IsPointOf new point scale × IsSumAt new new_sum point scale value

-- no point of a dictionary at which no variable is below 0 gives a sum a greater value than this fraction
abbrev pub IsAtMost : Dictionary → Line → (number den : ℤ) → Type 0
IsAtMost d sum number den = (point : Variable → ℤ) (scale value : ℤ) → ((variable : Variable) → pos 0 ≤ℤ point variable) → IsPointOf d point scale → IsSumAt d sum point scale value → (den *ℤ value) ≤ℤ (number *ℤ scale)
