-- 256 flags in four words of 64 bits, the lowest bit of the first word first.
use Rattle.std.specs.Prelude.{ℕ, zero, suc, ◌+◌, ◌*◌, ◌%◌, ◌/◌, ◌<◌, ◌≡◌, ◌^◌, ◌==◌, Bool, false, cond, List, map, slice_index_or, length}
use Rattle.std.specs.List.{range_with_len}
use Rattle.std.specs.Int.{bit_at}

-- flag k is the bit k % 64 of word k / 64
abbrev pub has_bit : List ℕ → ℕ → Bool
has_bit words k = bit_at (slice_index_or words (k / 64) 0) (k % 64) == 1

-- the flags that the words hold
unfoldable pub flags_in : List ℕ → List Bool
flags_in words = map (has_bit words) (range_with_len 0 256)

-- four words of 64 bits
abbrev pub AreWords : List ℕ → Type 0
AreWords words = (length words ≡ 4) × ((j : ℕ) → slice_index_or words j 0 < 2 ^ 64)

-- the number below 2 ^ n whose lowest n bits answer so
unfoldable pub number_of : ℕ → (ℕ → Bool) → ℕ
number_of zero is_set = 0
number_of (suc n) is_set = cond (is_set 0) 1 0 + 2 * number_of n (λ i. is_set (suc i))

-- the words that hold the flags
unfoldable pub words_of : List Bool → List ℕ
words_of flags = map (λ j. number_of 64 (λ i. slice_index_or flags (64 * j + i) false)) (range_with_len 0 4)
