-- What lines say of values before and after a pivot.
use Rattle.std.proofs.Common.{◌≡◌, ◌≢◌, ◌<◌, ◌+ℤ◌, ◌*ℤ◌, ℕ, ℤ, zero, suc, pos, sym, ap, ◌∙◌, arith, inl, inr}
use Rattle.std.proofs.Math.IntN.{*ℤ_comm, zero-*ℤ}
use Rattle.std.proofs.lemmas.Int.{ints}
use Rattle.std.proofs.lemmas.Bool.{cases_eq, ne_eqb, eq-eqb}
use Rattle.dds_simplex.specs.declared.line.Line.{Line}
use Rattle.dds_simplex.specs.Line.{IsMixed, number_of}
use Rattle.dds_simplex.specs.Points.{IsValue, sum_over, with_value}
use Rattle.dds_simplex.proofs.Fractions.{cancelled, sum_times, times_sum, times_assoc, times_turned}
use Rattle.dds_simplex.proofs.Sums.{sum_same_numbers, sum_mixed, sum_apart, without_number}

-- both sides of a line that was put in the place of a variable, times a factor
replaced_sides : (t e x own part d k w m dg kg g : ℤ) → own *ℤ m ≡ part *ℤ dg → dg *ℤ e ≡ kg *ℤ t +ℤ g → d *ℤ x ≡ k *ℤ t +ℤ (w +ℤ m *ℤ e) →
    d *ℤ own *ℤ x ≡ (k *ℤ own +ℤ kg *ℤ part) *ℤ t +ℤ (w *ℤ own +ℤ g *ℤ part)
replaced_sides t e x own part d k w m dg kg g factors given old =
    let turned : d *ℤ own *ℤ x ≡ own *ℤ (d *ℤ x) = times_assoc d own x ∙ times_turned d own x in
    let opened : own *ℤ (d *ℤ x) ≡ own *ℤ (k *ℤ t) +ℤ (own *ℤ w +ℤ own *ℤ (m *ℤ e)) = ap (λ z. own *ℤ z) old ∙ times_sum own (k *ℤ t) (w +ℤ m *ℤ e) ∙ ap (λ z. own *ℤ (k *ℤ t) +ℤ z) (times_sum own w (m *ℤ e)) in
    let moved : own *ℤ (m *ℤ e) ≡ part *ℤ (dg *ℤ e) = sym (times_assoc own m e) ∙ ap (λ z. z *ℤ e) factors ∙ times_assoc part dg e in
    let other : part *ℤ (dg *ℤ e) ≡ part *ℤ (kg *ℤ t) +ℤ part *ℤ g = ap (λ z. part *ℤ z) given ∙ times_sum part (kg *ℤ t) g in
    let constants : (k *ℤ own +ℤ kg *ℤ part) *ℤ t ≡ own *ℤ (k *ℤ t) +ℤ part *ℤ (kg *ℤ t) =
    sum_times (k *ℤ own) (kg *ℤ part) t ∙ ap (λ z. z +ℤ kg *ℤ part *ℤ t) (times_assoc k own t ∙ times_turned k own t) ∙ ap (λ z. own *ℤ (k *ℤ t) +ℤ z) (times_assoc kg part t ∙ times_turned kg part t) in
    omega (arith, ints, turned, opened, moved, other, constants, *ℤ_comm w own, *ℤ_comm g part)

factor_out : (c x z t s r : ℤ) → (z *ℤ t +ℤ s) *ℤ r ≡ z *ℤ r *ℤ t +ℤ s *ℤ r
factor_out c x z t s r = sum_times (z *ℤ t) s r ∙ ap (λ y. y +ℤ s *ℤ r) (times_assoc z t r ∙ ap (λ y. z *ℤ y) (*ℤ_comm t r) ∙ sym (times_assoc z r t))

-- a line in which another one was put in the place of a column's variable
pub value_replaced : (columns column : ℕ) (values : ℕ → ℤ) (scale e x own part : ℤ) (factor : ℕ) (old given mid new : Line) → column < columns →
    mid.den ≡ old.den → mid.constant ≡ old.constant → ((k : ℕ) → number_of mid k ≡ without_number (number_of old) column k) →
    part *ℤ pos factor ≡ number_of old column → own *ℤ pos factor ≡ given.den → IsMixed own mid part given (old.den *ℤ own) new →
    IsValue columns values scale given e → IsValue columns (with_value values column e) scale old x → IsValue columns values scale new x
value_replaced columns column values scale e x own part factor old given mid new within same_den same_constant numbers is_part is_own (rest, p, d, k, each) of_given of_old =
    let w = sum_over columns (number_of mid) values in
    let g = sum_over columns (number_of given) values in
    let m = number_of old column in
    let s = sum_over columns (number_of new) values in
    let factors : own *ℤ m ≡ part *ℤ given.den =
    ap (λ z. own *ℤ z) (sym is_part) ∙ times_turned own part (pos factor) ∙ ap (λ z. part *ℤ z) is_own in
    let apart : sum_over columns (number_of old) (with_value values column e) ≡ w +ℤ m *ℤ e =
    sum_apart columns (number_of old) values column e within ∙ ap (λ z. z +ℤ m *ℤ e) (sym (sum_same_numbers columns (number_of mid) (without_number (number_of old) column) values (λ j h. numbers j))) in
    let left : new.den *ℤ x *ℤ pos rest ≡ old.den *ℤ own *ℤ x = times_assoc new.den x (pos rest) ∙ ap (λ z. new.den *ℤ z) (*ℤ_comm x (pos rest)) ∙ sym (times_assoc new.den (pos rest) x) ∙ ap (λ z. z *ℤ x) d in
    let constants : new.constant *ℤ pos rest ≡ old.constant *ℤ own +ℤ given.constant *ℤ part = k ∙ ap (λ z. z *ℤ own +ℤ given.constant *ℤ part) same_constant in
    let sums : s *ℤ pos rest ≡ w *ℤ own +ℤ g *ℤ part = sum_mixed columns (number_of new) (number_of mid) (number_of given) values own part (pos rest) each in
    let right : (new.constant *ℤ scale +ℤ s) *ℤ pos rest ≡ (old.constant *ℤ own +ℤ given.constant *ℤ part) *ℤ scale +ℤ (w *ℤ own +ℤ g *ℤ part) =
    factor_out new.den x new.constant scale s (pos rest) ∙ ap (λ z. z *ℤ scale +ℤ s *ℤ pos rest) constants ∙ ap (λ z. (old.constant *ℤ own +ℤ given.constant *ℤ part) *ℤ scale +ℤ z) sums in
    let sides = replaced_sides scale e x own part old.den old.constant w m given.den given.constant g factors of_given (of_old ∙ ap (λ z. old.constant *ℤ scale +ℤ z) apart) in
    cancelled (new.den *ℤ x) (new.constant *ℤ scale +ℤ s) rest p (left ∙ sides ∙ sym right)

-- a line that says its column's variable in terms of the one that it gave, times a factor
sum_scaled : (n : ℕ) (z x values : ℕ → ℤ) (rest : ℤ) → ((k : ℕ) → z k *ℤ rest ≡ x k) → sum_over n z values *ℤ rest ≡ sum_over n x values
sum_scaled zero z x values rest h = zero-*ℤ rest
sum_scaled (suc n) z x values rest h =
    let term : z n *ℤ values n *ℤ rest ≡ x n *ℤ values n = times_assoc (z n) (values n) rest ∙ ap (λ y. z n *ℤ y) (*ℤ_comm (values n) rest) ∙ sym (times_assoc (z n) rest (values n)) ∙ ap (λ y. y *ℤ values n) (h n) in
    omega (arith, ints, sum_times (sum_over n z values) (z n *ℤ values n) rest, sum_scaled n z x values rest h, term)

without_scaled : (z x : ℕ → ℤ) (column : ℕ) (rest : ℤ) → ((k : ℕ) → k ≢ column → z k *ℤ rest ≡ x k) → (k : ℕ) → without_number z column k *ℤ rest ≡ without_number x column k
without_scaled z x column rest h k = elim (cases_eq k column) [
  | inl e ↦ rw (eq-eqb k column e) (zero-*ℤ rest)
  | inr ne ↦ rw (ne_eqb k column ne) (h k ne)
]

pub value_turned : (columns column : ℕ) (values : ℕ → ℤ) (scale e b : ℤ) (factor : ℕ) (old new : Line) → column < columns → 0 < factor →
    new.den *ℤ pos factor +ℤ number_of old column ≡ pos 0 → new.constant *ℤ pos factor ≡ old.constant → number_of new column *ℤ pos factor +ℤ old.den ≡ pos 0 →
    ((k : ℕ) → k ≢ column → number_of new k *ℤ pos factor ≡ number_of old k) →
    IsValue columns (with_value values column e) scale old b → IsValue columns (with_value values column b) scale new e
value_turned columns column values scale e b factor old new within p is_den is_constant is_own others of_old =
    let f = pos factor in
    let u = sum_over columns (without_number (number_of new) column) values in
    let w = sum_over columns (without_number (number_of old) column) values in
    let n = number_of old column in
    let c = number_of new column in
    let sums : u *ℤ f ≡ w = sum_scaled columns (without_number (number_of new) column) (without_number (number_of old) column) values f (without_scaled (number_of new) (number_of old) column f others) in
    let old_apart = sum_apart columns (number_of old) values column e within in
    let new_apart = sum_apart columns (number_of new) values column b within in
    let left : new.den *ℤ e *ℤ f +ℤ n *ℤ e ≡ pos 0 =
    ap (λ z. z +ℤ n *ℤ e) (times_assoc new.den e f ∙ ap (λ z. new.den *ℤ z) (*ℤ_comm e f) ∙ sym (times_assoc new.den f e)) ∙ sym (sum_times (new.den *ℤ f) n e) ∙ ap (λ z. z *ℤ e) is_den ∙ zero-*ℤ e in
    let own : c *ℤ b *ℤ f +ℤ old.den *ℤ b ≡ pos 0 =
    ap (λ z. z +ℤ old.den *ℤ b) (times_assoc c b f ∙ ap (λ z. c *ℤ z) (*ℤ_comm b f) ∙ sym (times_assoc c f b)) ∙ sym (sum_times (c *ℤ f) old.den b) ∙ ap (λ z. z *ℤ b) is_own ∙ zero-*ℤ b in
    let right : (new.constant *ℤ scale +ℤ (u +ℤ c *ℤ b)) *ℤ f ≡ old.constant *ℤ scale +ℤ (w +ℤ c *ℤ b *ℤ f) =
    factor_out new.den e new.constant scale (u +ℤ c *ℤ b) f ∙ ap (λ z. z *ℤ scale +ℤ (u +ℤ c *ℤ b) *ℤ f) is_constant ∙
    ap (λ z. old.constant *ℤ scale +ℤ z) (sum_times u (c *ℤ b) f ∙ ap (λ z. z +ℤ c *ℤ b *ℤ f) sums) in
    let said : old.den *ℤ b ≡ old.constant *ℤ scale +ℤ (w +ℤ n *ℤ e) = of_old ∙ ap (λ z. old.constant *ℤ scale +ℤ z) old_apart in
    let same : new.den *ℤ e *ℤ f ≡ (new.constant *ℤ scale +ℤ (u +ℤ c *ℤ b)) *ℤ f = omega (arith, ints, left, own, right, said) in
    cancelled (new.den *ℤ e) (new.constant *ℤ scale +ℤ (u +ℤ c *ℤ b)) factor p same ∙ ap (λ z. new.constant *ℤ scale +ℤ z) (sym new_apart)
