-- The right parts of a name as bits of a word: bit k is for the part of k bytes, its last ones.
use Rattle.std.specs.Prelude.{◌≡◌, ℕ, ◌+◌, ◌-◌, ◌<◌, ◌≤◌, ◌==◌, ◌||◌, List, drop, length, slice_index}
use Rattle.std.specs.Int.{bit_at}
use Rattle.dds_match.specs.Partitions.{name_matches}

-- for each byte of a pattern but `*`, the parts whose first byte it stands for: `?` (63) is any byte, every other byte itself
abbrev pub AreBeginnings : List ℕ → List ℕ → Type 0
AreBeginnings name words = (c k : ℕ) → c < 256 → k < length name
    → (bit_at (slice_index words c) (k + 1) == 1) ≡ (c == 63 || c == slice_index name (length name - (k + 1)))

-- the last bytes of a name, this many
abbrev pub last : List ℕ → ℕ → List ℕ
last name k = drop (length name - k) name

-- the parts that have the pattern
abbrev pub ArePartsWith : List ℕ → List ℕ → ℕ → Type 0
ArePartsWith pattern name parts = (k : ℕ) → k ≤ length name → (bit_at parts k == 1) ≡ name_matches pattern (last name k)
