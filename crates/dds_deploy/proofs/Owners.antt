-- The first number that a test passes over, as a loop looks for it.
use Rattle.std.proofs.Common.{◌≡◌, ℕ, ◌+◌, ◌-◌, ◌<◌, Bool, true, false, not, Option, Some}
use Rattle.std.specs.List.{find, range_with_len}
use Rattle.dds_base.proofs.Ranges.{range_first}

module _ (owned : ℕ → Bool) (i n : ℕ) (total : Option ℕ) (so_far : find (λ k. not (owned k)) (range_with_len i (n - i)) ≡ total) (left : i < n) where
  pub is_first : owned i ≡ false → Some i ≡ total
  is_first free = let h = rw (range_first i n left) at so_far in rw free at h

  pub passed : owned i ≡ true → find (λ k. not (owned k)) (range_with_len (i + 1) (n - (i + 1))) ≡ total
  passed taken = let h = rw (range_first i n left) at so_far in rw taken at h
