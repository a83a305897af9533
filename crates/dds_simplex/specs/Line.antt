-- Lines: fractions of whole numbers, one for each column and one that no variable has, over one denominator.
use Rattle.std.specs.Prelude.{◌≡◌, ◌<◌, ◌+ℤ◌, ◌*ℤ◌, ℕ, ℤ, pos, Option, MatchOption, slice_index_or, slice_set, unsigned_abs}
use Rattle.std.specs.Int.{◌∣◌}
use Rattle.dds_simplex.specs.declared.line.Line.{Line}

-- the number of a column's variable, 0 where there is no such column
abbrev pub number_of : Line → ℕ → ℤ
number_of l column = slice_index_or l.numbers.items column (pos 0)

-- a fraction is another one and `times` a third, over the product of their denominators
abbrev pub IsFractionMore : (times den number other_den other new_den new : ℤ) → Type 0
IsFractionMore times den number other_den other new_den new = new *ℤ (den *ℤ other_den) ≡ new_den *ℤ (number *ℤ other_den +ℤ times *ℤ (other *ℤ den))

-- a line is what it was and `times` another one, in each of its columns and in the number that no variable has
abbrev pub IsTimesMore : ℤ → Line → Line → Line → Type 0
IsTimesMore times other old new =
    IsFractionMore times old.den old.constant other.den other.constant new.den new.constant ×
    ((column : ℕ) → IsFractionMore times old.den (number_of old column) other.den (number_of other column) new.den (number_of new column))

-- a line is what it was and `times` the variable of a column, which is there
abbrev pub IsColumnMore : ℤ → Option ℕ → Line → Line → Type 0
IsColumnMore times column old new =
    MatchOption column ⊥ (λ k.
    (new.den ≡ old.den) × (new.constant ≡ old.constant) × (new.numbers.items ≡ slice_set old.numbers.items k (number_of old k +ℤ times *ℤ old.den)))

-- two numbers without a factor that both had
abbrev pub IsPairWithout : (first second first_rest second_rest : ℤ) → Type 0
IsPairWithout first second first_rest second_rest = (factor : ℕ) × (0 < factor) × (first_rest *ℤ pos factor ≡ first) × (second_rest *ℤ pos factor ≡ second)

-- a number divides each of a line
abbrev pub DividesLine : ℕ → Line → Type 0
DividesLine divisor l = (divisor ∣ unsigned_abs l.den) × (divisor ∣ unsigned_abs l.constant) × ((column : ℕ) → divisor ∣ unsigned_abs (number_of l column))

-- a line without a factor that each of its numbers had
abbrev pub IsLineWithout : Line → Line → Type 0
IsLineWithout old new = (factor : ℕ) × (0 < factor) × (new.den *ℤ pos factor ≡ old.den) × (new.constant *ℤ pos factor ≡ old.constant) × ((column : ℕ) → number_of new column *ℤ pos factor ≡ number_of old column)

-- `own` times a line and `part` times another one, over a denominator that is given, without a factor that each of these numbers had
abbrev pub IsMixed : ℤ → Line → ℤ → Line → ℤ → Line → Type 0
IsMixed own old part other den new =
    (factor : ℕ) × (0 < factor) × (new.den *ℤ pos factor ≡ den) × (new.constant *ℤ pos factor ≡ old.constant *ℤ own +ℤ other.constant *ℤ part) ×
    ((column : ℕ) → number_of new column *ℤ pos factor ≡ number_of old column *ℤ own +ℤ number_of other column *ℤ part)
