-- Sets of numbers of one writer, as a message has them (DDSI-RTPS 2.5, clause 8.3.5.5).
use Rattle.std.specs.Prelude.{ℕ, ◌+◌, ◌-◌, ◌≤◌, ◌^◌, Bool, false, ◌&&◌, ◌==◌, List, map, slice_index_or, nat_le}
use Rattle.std.specs.List.{All, list_any, range_with_len}

-- the numbers of a writer are 1 to this
abbrev pub last_number : ℕ
last_number = 2 ^ 63 - 1

-- how many numbers from its base on a set may have
abbrev pub set_width : ℕ
set_width = 256

-- numbers from a base on: flag k says whether base + k is among them, for k below 256.
-- Equal sets have equal flags, so a set is given by its base and a test (`set_of`)
pub record NumberSet : Type 0 where
  pub base : ℕ
  pub flags : List Bool

-- what the 256 numbers from a base on answer
unfoldable pub flags_of : ℕ → (ℕ → Bool) → List Bool
flags_of base p = map p (range_with_len base set_width)

-- the set with a base of the 256 numbers from it on that pass
abbrev pub set_of : ℕ → (ℕ → Bool) → NumberSet
set_of base p = record { base = base; flags = flags_of base p }

-- the flags from a base on have the number
abbrev pub has_flag : ℕ → List Bool → ℕ → Bool
has_flag base flags n = nat_le base n && slice_index_or flags (n - base) false

-- the set has the number
abbrev pub has : NumberSet → ℕ → Bool
has s n = has_flag s.base s.flags n

-- the list has the number
abbrev pub is_listed : List ℕ → ℕ → Bool
is_listed numbers n = list_any (λ m. m == n) numbers

-- a number that a set with this base may have
abbrev pub FitsAfter : ℕ → ℕ → Type 0
FitsAfter base n = (base ≤ n) × (n ≤ base + 255) × (n ≤ last_number)

-- what a set may be made of
abbrev pub FitsSet : ℕ → List ℕ → Type 0
FitsSet base numbers = (1 ≤ base) × (base ≤ last_number + 1) × All (FitsAfter base) numbers
