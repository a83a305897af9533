-- Sums as a loop adds them up.
use Rattle.std.proofs.Common.{ℕ, ◌≡◌, ◌+◌, refl, add-one}
use Rattle.dds_base.specs.Sums.{total}

pub total_start : (f : ℕ → ℕ) → total 0 f ≡ 0
unfolding total
total_start f = refl

pub total_more : (f : ℕ → ℕ) (i : ℕ) → total (i + 1) f ≡ total i f + f i
unfolding total
total_more f i = rw add-one
