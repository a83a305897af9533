-- Fractions of whole numbers: products of numbers with a sign, and common factors.
use Rattle.std.proofs.Common.{◌≡◌, ◌<◌, ◌+ℤ◌, ◌-ℤ◌, ◌*ℤ◌, ◌<ℤ◌, int_div, int_rem, unsigned_abs, ℕ, ℤ, zero, suc, pos, negsuc, sym, ap, ◌∙◌, arith}
use Rattle.std.specs.Int.{◌∣◌}
use Rattle.std.proofs.Math.IntN.{suc_ℤ, pred_ℤ, neg_ℤ, suc_ℤ-*ℤ, pred_ℤ-*ℤ, *ℤ_comm, zero-*ℤ, pos-*ℤ-pos, negsuc-*ℤ-pos}
use Rattle.std.proofs.lemmas.Int.{ints, quot-rem}
use Rattle.std.proofs.lemmas.Nat.Gcd.{mod-eq-zero_of_dvd}
use Rattle.dds_simplex.specs.Line.{IsFractionMore}

after_suc : (m x y : ℤ) → m *ℤ (x +ℤ y) ≡ m *ℤ x +ℤ m *ℤ y → suc_ℤ m *ℤ (x +ℤ y) ≡ suc_ℤ m *ℤ x +ℤ suc_ℤ m *ℤ y
after_suc m x y h = omega (arith, ints, h, suc_ℤ-*ℤ m (x +ℤ y), suc_ℤ-*ℤ m x, suc_ℤ-*ℤ m y)

after_pred : (m x y : ℤ) → m *ℤ (x +ℤ y) ≡ m *ℤ x +ℤ m *ℤ y → pred_ℤ m *ℤ (x +ℤ y) ≡ pred_ℤ m *ℤ x +ℤ pred_ℤ m *ℤ y
after_pred m x y h = omega (arith, ints, h, pred_ℤ-*ℤ m (x +ℤ y), pred_ℤ-*ℤ m x, pred_ℤ-*ℤ m y)

sum_at_pos : (n : ℕ) (x y : ℤ) → pos n *ℤ (x +ℤ y) ≡ pos n *ℤ x +ℤ pos n *ℤ y
sum_at_pos zero x y = omega (arith, ints, zero-*ℤ (x +ℤ y), zero-*ℤ x, zero-*ℤ y)
sum_at_pos (suc n) x y = after_suc (pos n) x y (sum_at_pos n x y)

sum_at_negsuc : (n : ℕ) (x y : ℤ) → negsuc n *ℤ (x +ℤ y) ≡ negsuc n *ℤ x +ℤ negsuc n *ℤ y
sum_at_negsuc zero x y = after_pred (pos zero) x y (sum_at_pos zero x y)
sum_at_negsuc (suc n) x y = after_pred (negsuc n) x y (sum_at_negsuc n x y)

-- a number times a sum
pub times_sum : (m x y : ℤ) → m *ℤ (x +ℤ y) ≡ m *ℤ x +ℤ m *ℤ y
times_sum (pos n) x y = sum_at_pos n x y
times_sum (negsuc n) x y = sum_at_negsuc n x y

-- a sum times a number
pub sum_times : (x y m : ℤ) → (x +ℤ y) *ℤ m ≡ x *ℤ m +ℤ y *ℤ m
sum_times x y m = omega (arith, ints, times_sum m x y, *ℤ_comm (x +ℤ y) m, *ℤ_comm x m, *ℤ_comm y m)

-- a number times a difference
pub times_difference : (m x y : ℤ) → m *ℤ (x -ℤ y) ≡ m *ℤ x -ℤ m *ℤ y
times_difference m x y =
    let whole : x -ℤ y +ℤ y ≡ x = omega (arith, ints) in
    omega (arith, ints, times_sum m (x -ℤ y) y, ap (λ z. m *ℤ z) whole)

assoc_after_suc : (m x y : ℤ) → m *ℤ x *ℤ y ≡ m *ℤ (x *ℤ y) → suc_ℤ m *ℤ x *ℤ y ≡ suc_ℤ m *ℤ (x *ℤ y)
assoc_after_suc m x y h = ap (λ z. z *ℤ y) (suc_ℤ-*ℤ m x) ∙ sum_times (m *ℤ x) x y ∙ ap (λ z. z +ℤ x *ℤ y) h ∙ sym (suc_ℤ-*ℤ m (x *ℤ y))

assoc_after_pred : (m x y : ℤ) → m *ℤ x *ℤ y ≡ m *ℤ (x *ℤ y) → pred_ℤ m *ℤ x *ℤ y ≡ pred_ℤ m *ℤ (x *ℤ y)
assoc_after_pred m x y h =
    let whole : m *ℤ x -ℤ x +ℤ x ≡ m *ℤ x = omega (arith, ints) in
    let parts : (m *ℤ x -ℤ x) *ℤ y ≡ m *ℤ x *ℤ y -ℤ x *ℤ y = omega (arith, ints, sum_times (m *ℤ x -ℤ x) x y, ap (λ z. z *ℤ y) whole) in
    ap (λ z. z *ℤ y) (pred_ℤ-*ℤ m x) ∙ parts ∙ ap (λ z. z -ℤ x *ℤ y) h ∙ sym (pred_ℤ-*ℤ m (x *ℤ y))

assoc_at_pos : (n : ℕ) (x y : ℤ) → pos n *ℤ x *ℤ y ≡ pos n *ℤ (x *ℤ y)
assoc_at_pos zero x y = ap (λ z. z *ℤ y) (zero-*ℤ x) ∙ zero-*ℤ y ∙ sym (zero-*ℤ (x *ℤ y))
assoc_at_pos (suc n) x y = assoc_after_suc (pos n) x y (assoc_at_pos n x y)

assoc_at_negsuc : (n : ℕ) (x y : ℤ) → negsuc n *ℤ x *ℤ y ≡ negsuc n *ℤ (x *ℤ y)
assoc_at_negsuc zero x y = assoc_after_pred (pos zero) x y (assoc_at_pos zero x y)
assoc_at_negsuc (suc n) x y = assoc_after_pred (negsuc n) x y (assoc_at_negsuc n x y)

-- products have no order of brackets
pub times_assoc : (m x y : ℤ) → m *ℤ x *ℤ y ≡ m *ℤ (x *ℤ y)
times_assoc (pos n) x y = assoc_at_pos n x y
times_assoc (negsuc n) x y = assoc_at_negsuc n x y

-- nor of factors
pub times_turned : (m x y : ℤ) → m *ℤ (x *ℤ y) ≡ x *ℤ (m *ℤ y)
times_turned m x y = sym (times_assoc m x y) ∙ ap (λ z. z *ℤ y) (*ℤ_comm m x) ∙ times_assoc x m y

only_zero : (z : ℤ) (d : ℕ) → 0 < d → z *ℤ pos d ≡ pos 0 → z ≡ pos 0
only_zero (pos n) zero p h = absurd (omega arith)
only_zero (pos n) (suc d) p h = omega (arith, ints, h, pos-*ℤ-pos n (suc d))
only_zero (negsuc n) zero p h = absurd (omega arith)
only_zero (negsuc n) (suc d) p h = omega (arith, ints, h, negsuc-*ℤ-pos n (suc d))

-- a common factor goes
pub cancelled : (x y : ℤ) (d : ℕ) → 0 < d → x *ℤ pos d ≡ y *ℤ pos d → x ≡ y
cancelled x y d p h =
    let none : (x -ℤ y) *ℤ pos d ≡ pos 0 = omega (arith, ints, h, times_difference (pos d) x y, *ℤ_comm (x -ℤ y) (pos d), *ℤ_comm x (pos d), *ℤ_comm y (pos d)) in
    omega (arith, ints, only_zero (x -ℤ y) d p none)

both_parts : (x own t y mine g : ℤ) → (x *ℤ own +ℤ y *ℤ (t *ℤ mine)) *ℤ g ≡ x *ℤ (own *ℤ g) +ℤ t *ℤ (y *ℤ (mine *ℤ g))
both_parts x own t y mine g =
    sum_times (x *ℤ own) (y *ℤ (t *ℤ mine)) g ∙
    ap (λ z. z +ℤ y *ℤ (t *ℤ mine) *ℤ g) (times_assoc x own g) ∙
    ap (λ z. x *ℤ (own *ℤ g) +ℤ z) (times_assoc y (t *ℤ mine) g ∙ ap (λ z. y *ℤ z) (times_assoc t mine g) ∙ times_turned y t (mine *ℤ g))

-- the sum over the least common denominator: `mine` and `own` are what the denominators have beside a factor of both, and `rest` is a factor that went
pub fraction_more : (t a x b y c z mine own : ℤ) (factor rest : ℕ) → 0 < rest → mine *ℤ pos factor ≡ a → own *ℤ pos factor ≡ b → c *ℤ pos rest ≡ a *ℤ own →
    z *ℤ pos rest ≡ x *ℤ own +ℤ y *ℤ (t *ℤ mine) → IsFractionMore t a x b y c z
fraction_more t a x b y c z mine own factor rest p is_a is_b is_c is_z =
    let s = x *ℤ own +ℤ y *ℤ (t *ℤ mine) in
    let g = pos factor in
    let whole = x *ℤ b +ℤ t *ℤ (y *ℤ a) in
    let sum : s *ℤ g ≡ whole = both_parts x own t y mine g ∙ ap (λ k. x *ℤ k +ℤ t *ℤ (y *ℤ (mine *ℤ g))) is_b ∙ ap (λ k. x *ℤ b +ℤ t *ℤ (y *ℤ k)) is_a in
    let left : z *ℤ (a *ℤ b) *ℤ pos rest ≡ s *ℤ (a *ℤ b) = *ℤ_comm (z *ℤ (a *ℤ b)) (pos rest) ∙ sym (times_assoc (pos rest) z (a *ℤ b)) ∙ ap (λ k. k *ℤ (a *ℤ b)) (*ℤ_comm (pos rest) z ∙ is_z) in
    let right : c *ℤ whole *ℤ pos rest ≡ a *ℤ own *ℤ whole = *ℤ_comm (c *ℤ whole) (pos rest) ∙ sym (times_assoc (pos rest) c whole) ∙ ap (λ k. k *ℤ whole) (*ℤ_comm (pos rest) c ∙ is_c) in
    let over : a *ℤ b ≡ a *ℤ own *ℤ g = ap (λ k. a *ℤ k) (sym is_b) ∙ sym (times_assoc a own g) in
    let same : s *ℤ (a *ℤ b) ≡ a *ℤ own *ℤ whole = ap (λ k. s *ℤ k) over ∙ times_turned s (a *ℤ own) g ∙ ap (λ k. a *ℤ own *ℤ k) sum in
    cancelled (z *ℤ (a *ℤ b)) (c *ℤ whole) rest p (left ∙ same ∙ sym right)

no_rest : (a : ℤ) (d : ℕ) → d ∣ unsigned_abs a → int_rem a (pos d) ≡ pos 0
no_rest (pos n) d h = ap pos (mod-eq-zero_of_dvd d h)
no_rest (negsuc n) d h = ap (λ r. neg_ℤ (pos r)) (mod-eq-zero_of_dvd d h)

-- a division by a divisor leaves nothing
pub exact_division : (a : ℤ) (d : ℕ) → d ∣ unsigned_abs a → int_div a (pos d) *ℤ pos d ≡ a
exact_division a d h = omega (arith, ints, quot-rem a (pos d), no_rest a d h)

-- what has a factor above 0 and is above 0 is so without it
pub above_zero : (z : ℤ) (d : ℕ) → pos 0 <ℤ (z *ℤ pos d) → pos 0 <ℤ z
above_zero (pos zero) d h = absurd (omega (arith, ints, h, zero-*ℤ (pos d)))
above_zero (pos (suc n)) d h = omega (arith, ints)
above_zero (negsuc n) d h = absurd (omega (arith, ints, h, negsuc-*ℤ-pos n d))

-- a product of numbers above 0 is above 0
pub product_above_zero : (x y : ℤ) → pos 0 <ℤ x → pos 0 <ℤ y → pos 0 <ℤ (x *ℤ y)
product_above_zero (pos (suc m)) (pos (suc n)) p q = omega (arith, ints, pos-*ℤ-pos (suc m) (suc n))
product_above_zero (pos zero) y p q = absurd (omega (arith, ints))
product_above_zero (negsuc m) y p q = absurd (omega (arith, ints))
product_above_zero (pos (suc m)) (pos zero) p q = absurd (omega (arith, ints))
product_above_zero (pos (suc m)) (negsuc n) p q = absurd (omega (arith, ints))
