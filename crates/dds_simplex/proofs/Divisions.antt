-- What the code's divisions give.
use Rattle.std.proofs.Common.{◌≡◌, ◌<◌, ◌<ℤ◌, ◌*ℤ◌, int_div, unsigned_abs, ℕ, ℤ, pos, ap, ◌∙◌, arith, to_z, of_z, FitsSigned}
use Rattle.std.specs.Int.{◌∣◌, w128}
use Rattle.std.proofs.lemmas.Int.{ints, quot_is, quot_fits}
use Rattle.dds_simplex.proofs.Fractions.{exact_division}

-- a division by a number above 0 is that of the whole numbers
pub code_division : (a d : ℤ) → FitsSigned w128 a → FitsSigned w128 d → pos 0 <ℤ d → to_z w128 (of_z w128 (int_div (to_z w128 (of_z w128 a)) (to_z w128 (of_z w128 d)))) ≡ int_div a d
code_division a d f g p = quot_is w128 a d f g (quot_fits w128 a d f p)

-- a division by a divisor leaves nothing
pub code_exact : (a z : ℤ) (d : ℕ) → FitsSigned w128 a → FitsSigned w128 z → 0 < d → z ≡ pos d → d ∣ unsigned_abs a →
    to_z w128 (of_z w128 (int_div (to_z w128 (of_z w128 a)) (to_z w128 (of_z w128 z)))) *ℤ pos d ≡ a
code_exact a z d f g p is h =
    let above : pos 0 <ℤ z = omega (arith, ints, is) in
    ap (λ q. q *ℤ pos d) (code_division a z f g above ∙ ap (λ y. int_div a y) is) ∙ exact_division a d h
