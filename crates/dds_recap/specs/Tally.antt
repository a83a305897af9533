-- Numbers by pairs of numbers.
use Rattle.std.specs.Prelude.{◌≡◌, ℕ, ◌+◌, ◌-◌, ◌≤◌, max, ◌&&◌, ◌==◌, if◌then◌else◌, unwrap_or}
use Rattle.std.specs.Ordering.{nat_cmp, ordering_then}
use Rattle.std.proofs.Common.{Ordering}
use Rattle.std.specs.BTreeMap as tree
use Rattle.dds_recap.specs.declared.levels.Levels.{Levels}
use Rattle.dds_recap.specs.declared.tally.Tally.{Tally}

abbrev pub pair_cmp : ℕ × ℕ → ℕ × ℕ → Ordering
pair_cmp x y = ordering_then (nat_cmp x.0 y.0) (nat_cmp x.1 y.1)

-- the number of a pair, 0 where none was set
abbrev pub number_at : Tally → ℕ → ℕ → ℕ
number_at t i k = unwrap_or (tree.get pair_cmp t.numbers (i, k)) 0

-- n at one pair, 0 at each other
abbrev pub only_at : ℕ → ℕ → ℕ → ℕ → ℕ → ℕ
only_at i k n a b = if (i == a) && (k == b) then n else 0

-- the numbers are the old ones, and n at one pair
pub record IsSetAt (i k n : ℕ) (old new : Tally) : Type 0 where
  pub numbers : (a b : ℕ) → number_at new a b ≡ (if (i == a) && (k == b) then n else number_at old a b)

-- each number is so much greater
pub record IsMoreBy (more : ℕ → ℕ → ℕ) (old new : Tally) : Type 0 where
  pub numbers : (a b : ℕ) → number_at new a b ≡ number_at old a b + more a b

-- how much came and hasn't gone
abbrev pub level_at : Levels → ℕ → ℕ → ℕ
level_at x i k = number_at x.came i k - number_at x.gone i k

-- the most of each pair is the greater of the old one and of what is there now
pub record KeepsMost (old new : Levels) : Type 0 where
  pub most : (a b : ℕ) → number_at new.most a b ≡ max (number_at old.most a b) (level_at new a b)

-- nowhere is more than the most that was there
abbrev pub IsTight : Levels → Type 0
IsTight x = (i k : ℕ) → level_at x i k ≤ number_at x.most i k

-- the most goes along with what is there
abbrev pub Rises : Levels → Levels → Type 0
Rises old new = IsTight old → KeepsMost old new

-- the most that was at each pair, and, where the second number says nothing, at each number
abbrev pub most_at : Levels → ℕ → ℕ → ℕ
most_at x i k = number_at x.most i k

abbrev pub most_in_all_at : Levels → ℕ → ℕ
most_in_all_at x i = number_at x.most i 0
