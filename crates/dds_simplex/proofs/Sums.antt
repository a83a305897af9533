-- Sums over columns.
use Rattle.std.proofs.Common.{◌≡◌, ◌≢◌, ◌<◌, ◌≤◌, ◌+ℤ◌, ◌*ℤ◌, ℕ, ℤ, zero, suc, pos, refl, sym, ap, ◌∙◌, arith, inl, inr}
use Rattle.std.proofs.Math.IntN.{*ℤ_comm, zero-*ℤ}
use Rattle.std.proofs.lemmas.Int.{ints}
use Rattle.std.proofs.lemmas.Bool.{cases_eq, ne_eqb, eq-eqb}
use Rattle.dds_simplex.specs.Points.{sum_over, with_value}
use Rattle.dds_simplex.proofs.Fractions.{sum_times, times_assoc}

-- the same values give the same sum
pub sum_same : (n : ℕ) (numbers first second : ℕ → ℤ) → ((k : ℕ) → k < n → first k ≡ second k) → sum_over n numbers first ≡ sum_over n numbers second
sum_same zero numbers first second same = refl
sum_same (suc n) numbers first second same =
    let here : n < suc n = omega arith in
    ap (λ z. z +ℤ numbers n *ℤ first n) (sum_same n numbers first second (λ k h. same k (omega (arith, h)))) ∙ ap (λ z. sum_over n numbers second +ℤ numbers n *ℤ z) (same n here)

-- the same numbers give the same sum
pub sum_same_numbers : (n : ℕ) (first second values : ℕ → ℤ) → ((k : ℕ) → k < n → first k ≡ second k) → sum_over n first values ≡ sum_over n second values
sum_same_numbers zero first second values same = refl
sum_same_numbers (suc n) first second values same =
    let here : n < suc n = omega arith in
    ap (λ z. z +ℤ first n *ℤ values n) (sum_same_numbers n first second values (λ k h. same k (omega (arith, h)))) ∙ ap (λ z. sum_over n second values +ℤ z *ℤ values n) (same n here)

term_mixed : (z x y q own part rest : ℤ) → z *ℤ rest ≡ x *ℤ own +ℤ y *ℤ part → z *ℤ q *ℤ rest ≡ x *ℤ q *ℤ own +ℤ y *ℤ q *ℤ part
term_mixed z x y q own part rest h =
    let left : z *ℤ q *ℤ rest ≡ z *ℤ rest *ℤ q = times_assoc z q rest ∙ ap (λ w. z *ℤ w) (*ℤ_comm q rest) ∙ sym (times_assoc z rest q) in
    let one : x *ℤ own *ℤ q ≡ x *ℤ q *ℤ own = times_assoc x own q ∙ ap (λ w. x *ℤ w) (*ℤ_comm own q) ∙ sym (times_assoc x q own) in
    let two : y *ℤ part *ℤ q ≡ y *ℤ q *ℤ part = times_assoc y part q ∙ ap (λ w. y *ℤ w) (*ℤ_comm part q) ∙ sym (times_assoc y q part) in
    left ∙ ap (λ w. w *ℤ q) h ∙ sum_times (x *ℤ own) (y *ℤ part) q ∙ ap (λ w. w +ℤ y *ℤ part *ℤ q) one ∙ ap (λ w. x *ℤ q *ℤ own +ℤ w) two

-- a sum of mixed numbers
pub sum_mixed : (n : ℕ) (z x y values : ℕ → ℤ) (own part rest : ℤ) → ((k : ℕ) → z k *ℤ rest ≡ x k *ℤ own +ℤ y k *ℤ part) → sum_over n z values *ℤ rest ≡ sum_over n x values *ℤ own +ℤ sum_over n y values *ℤ part
sum_mixed zero z x y values own part rest h = omega (arith, ints, zero-*ℤ rest, zero-*ℤ own, zero-*ℤ part)
sum_mixed (suc n) z x y values own part rest h =
    omega (
      arith,
      ints,
      sum_mixed n z x y values own part rest h,
      term_mixed (z n) (x n) (y n) (values n) own part rest (h n),
      sum_times (sum_over n z values) (z n *ℤ values n) rest,
      sum_times (sum_over n x values) (x n *ℤ values n) own,
      sum_times (sum_over n y values) (y n *ℤ values n) part,
    )

-- numbers of which that of one column is 0
abbrev pub without_number : (ℕ → ℤ) → ℕ → ℕ → ℤ
without_number numbers column k = with_value numbers column (pos 0) k

-- beyond a column nothing changes
before_column : (n : ℕ) (numbers values : ℕ → ℤ) (column : ℕ) (value : ℤ) → n ≤ column → sum_over n numbers (with_value values column value) ≡ sum_over n (without_number numbers column) values
before_column zero numbers values column value le = refl
before_column (suc n) numbers values column value le =
    let ne : n ≢ column = omega arith in
    let less : n ≤ column = omega arith in
    let is_value : with_value values column value n ≡ values n = rw (ne_eqb n column ne) refl in
    let is_number : without_number numbers column n ≡ numbers n = rw (ne_eqb n column ne) refl in
    ap (λ z. z +ℤ numbers n *ℤ with_value values column value n) (before_column n numbers values column value less) ∙
    ap (λ z. sum_over n (without_number numbers column) values +ℤ numbers n *ℤ z) is_value ∙
    ap (λ z. sum_over n (without_number numbers column) values +ℤ z *ℤ values n) (sym is_number)

-- the value of one column stands apart
pub sum_apart : (n : ℕ) (numbers values : ℕ → ℤ) (column : ℕ) (value : ℤ) → column < n → sum_over n numbers (with_value values column value) ≡ sum_over n (without_number numbers column) values +ℤ numbers column *ℤ value
sum_apart zero numbers values column value less = absurd (omega (arith, less))
sum_apart (suc n) numbers values column value less = elim (cases_eq n column) [
  | inl e ↦
      let le : n ≤ column = omega arith in
      let is_value : with_value values column value n ≡ value = rw (eq-eqb n column e) refl in
      let is_number : without_number numbers column n ≡ pos 0 = rw (eq-eqb n column e) refl in
      let at : numbers n ≡ numbers column = ap numbers e in
      omega (arith, ints, before_column n numbers values column value le, ap (λ z. numbers n *ℤ z) is_value, ap (λ z. z *ℤ value) at, ap (λ z. z *ℤ values n) is_number, zero-*ℤ (values n))
  | inr ne ↦
      let below : column < n = omega (arith, less) in
      let is_value : with_value values column value n ≡ values n = rw (ne_eqb n column ne) refl in
      let is_number : without_number numbers column n ≡ numbers n = rw (ne_eqb n column ne) refl in
      omega (arith, ints, sum_apart n numbers values column value below, ap (λ z. numbers n *ℤ z) is_value, ap (λ z. z *ℤ values n) is_number)
]
