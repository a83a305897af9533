-- Lines that are turned, and in which another one is put in the place of a variable.
use Rattle.std.proofs.Common.{◌≡◌, ◌≢◌, ◌<◌, ◌*ℤ◌, ◌<ℤ◌, ℕ, ℤ, pos, length, get_or, set, refl, sym, ap, ◌∙◌, arith, inl, inr, subst}
use Rattle.std.proofs.Math.IntN.{neg_ℤ, zero-*ℤ}
use Rattle.std.proofs.lemmas.Int.{ints}
use Rattle.std.proofs.lemmas.Bool.{cases_eq, ne_eqb, eq-eqb}
use Rattle.std.proofs.lemmas.List.{get_or-set_same, get_or-set_other}
use Rattle.dds_simplex.specs.declared.line.Line.{Line}
use Rattle.dds_simplex.specs.Line.{IsLineWithout, IsMixed, IsPairWithout, number_of}
use Rattle.dds_simplex.specs.Points.{IsReplaced, IsTurned, sum_over, with_value}
use Rattle.dds_simplex.proofs.Fractions.{above_zero, product_above_zero}
use Rattle.dds_simplex.proofs.Sums.{sum_same, sum_apart, without_number}
use Rattle.dds_simplex.proofs.Values.{value_replaced, value_turned}

-- a line whose variable and column changed places, without a factor
pub turned_from : (column : ℕ) (own : ℤ) (old mid new : Line) → column < length old.numbers.items → mid.den ≡ neg_ℤ (number_of old column) → mid.constant ≡ old.constant →
    mid.numbers.items ≡ set old.numbers.items column own → own ≡ neg_ℤ old.den → IsLineWithout mid new → IsTurned column old new
turned_from column own old mid new there is_den is_constant is_numbers is_own (factor, p, d, k, each) = λ columns values scale variable value within of_old.
    let here : number_of mid column ≡ own = ap (λ xs. get_or xs column (pos 0)) is_numbers ∙ get_or-set_same old.numbers.items column own (pos 0) there in
    let others : (j : ℕ) → j ≢ column → number_of new j *ℤ pos factor ≡ number_of old j =
    λ j ne. each j ∙ ap (λ xs. get_or xs j (pos 0)) is_numbers ∙ get_or-set_other old.numbers.items column j own (pos 0) ne in
    value_turned columns column values scale variable value factor old new within p
    (omega (arith, ints, d, is_den)) (k ∙ is_constant) (omega (arith, ints, each column, here, is_own)) others of_old

-- a variable that a line doesn't have
pub absent_from : (column : ℕ) (given old : Line) → number_of old column ≡ pos 0 → IsReplaced column given old old
absent_from column given old none = λ columns values scale variable value within of_given of_old.
    let now = sum_apart columns (number_of old) values column (values column) within in
    let before = sum_apart columns (number_of old) values column variable within in
    let same : sum_over columns (number_of old) (with_value values column (values column)) ≡ sum_over columns (number_of old) values =
    sum_same columns (number_of old) (with_value values column (values column)) values (λ k h. own_value values column k) in
    omega (arith, ints, of_old, now, before, same, ap (λ z. z *ℤ variable) none, ap (λ z. z *ℤ values column) none, zero-*ℤ variable, zero-*ℤ (values column))
  where
    own_value : (values : ℕ → ℤ) (column k : ℕ) → with_value values column (values column) k ≡ values k
    own_value values column k = elim (cases_eq k column) [
      | inl e ↦ rw (eq-eqb k column e) (ap values (sym e))
      | inr ne ↦ rw (ne_eqb k column ne) refl
    ]

-- a line in which another one was put in the place of a variable
pub replaced_from : (column : ℕ) (own part : ℤ) (given old mid new : Line) → mid.den ≡ old.den → mid.constant ≡ old.constant → column < length old.numbers.items →
    mid.numbers.items ≡ set old.numbers.items column (pos 0) → IsPairWithout (number_of old column) given.den part own → IsMixed own mid part given (old.den *ℤ own) new → IsReplaced column given old new
replaced_from column own part given old mid new is_den is_constant there is_numbers (factor, p, is_part, is_own) mixed = λ columns values scale variable value within of_given of_old.
    value_replaced columns column values scale variable value own part factor old given mid new within is_den is_constant (without_here old mid column there is_numbers) is_part is_own mixed of_given of_old
  where
    without_here : (old mid : Line) (column : ℕ) → column < length old.numbers.items → mid.numbers.items ≡ set old.numbers.items column (pos 0) → (k : ℕ) → number_of mid k ≡ without_number (number_of old) column k
    without_here old mid column there is_numbers k = ap (λ xs. get_or xs k (pos 0)) is_numbers ∙ elim (cases_eq k column) [
      | inl e ↦ rw (e, eq-eqb column column refl) (get_or-set_same old.numbers.items column (pos 0) (pos 0) there)
      | inr ne ↦ rw (ne_eqb k column ne) (get_or-set_other old.numbers.items column k (pos 0) (pos 0) ne)
    ]

-- a line that is turned at a number below 0 has a denominator above 0
pub turned_den : (column : ℕ) (old mid new : Line) → mid.den ≡ neg_ℤ (number_of old column) → number_of old column <ℤ pos 0 → IsLineWithout mid new → pos 0 <ℤ new.den
turned_den column old mid new is_den below (factor, p, d, k, each) =
    let whole : pos 0 <ℤ (new.den *ℤ pos factor) = omega (arith, ints, d, is_den, below) in
    above_zero new.den factor whole

-- the denominator stays above 0
pub replaced_den : (column : ℕ) (own part : ℤ) (given old mid new : Line) → IsPairWithout (number_of old column) given.den part own → IsMixed own mid part given (old.den *ℤ own) new →
    pos 0 <ℤ old.den → pos 0 <ℤ given.den → pos 0 <ℤ new.den
replaced_den column own part given old mid new (factor, p, is_part, is_own) (rest, q, d, k, each) old_above given_above =
    let own_above : pos 0 <ℤ own = above_zero own factor (subst (λ z. pos 0 <ℤ z) (sym is_own) given_above) in
    above_zero new.den rest (subst (λ z. pos 0 <ℤ z) (sym d) (product_above_zero old.den own old_above own_above))
