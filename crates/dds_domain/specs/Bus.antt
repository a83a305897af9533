-- The bus as a list of its places.
use Rattle.std.specs.Prelude.{◌≡◌, ℕ, ◌+◌, ◌-◌, ◌*◌, ◌<◌, Bool, true, false, if◌then◌else◌, nat_lt, List, Option, Some, None, is_none, is_some, length, position, slice_index, slice_index_or, slice_set}
use Rattle.dds_base.specs.Sums.{count_below, least}
use Rattle.dds_base.specs.declared.messages.Packet.{Packet}
use Rattle.dds_runs.specs.Steps.{places}

-- the packet at a place, if there is one
abbrev pub at_place : List (Option Packet) → ℕ → Option Packet
at_place bus i = slice_index_or bus i None

-- the least free place, where a packet sent now goes to; none where the bus is full and loses it
abbrev pub sent_to : List (Option Packet) → Option ℕ
sent_to bus = position is_none bus

-- the bus with a packet at the place, if there is one
abbrev pub with_packet : List (Option Packet) → Packet → Option ℕ → List (Option Packet)
with_packet bus p None = bus
with_packet bus p (Some i) = slice_set bus i (Some p)

-- how many places lie above the highest taken one; 4,096 where no place is taken
abbrev pub free_above : List (Option Packet) → ℕ
free_above bus = least (λ k. is_some (at_place bus (places - 1 - k))) places 0

-- the highest taken place; none where no place is taken
abbrev pub last_taken : List (Option Packet) → Option ℕ
last_taken bus = if nat_lt (free_above bus) places then Some (places - 1 - free_above bus) else None

-- the place is the last at which the test passes, and there is none where it passes nowhere
abbrev pub IsLastPlace : {X : Type 0} → (X → Bool) → List X → Option ℕ → Type 0
IsLastPlace {X} p xs None = (k : ℕ) (d : X) → k < length xs → p (slice_index_or xs k d) ≡ false
IsLastPlace {X} p xs (Some i) = (i < length xs) × ((d : X) → p (slice_index_or xs i d) ≡ true) × ((k : ℕ) (d : X) → i < k → k < length xs → p (slice_index_or xs k d) ≡ false)

-- how many of the n places from a place on are taken
abbrev pub taken_from : List (Option Packet) → ℕ → ℕ → ℕ
taken_from bus start n = count_below n (λ i. is_some (at_place bus (start + i)))

-- how many places are taken
abbrev pub taken_count : List (Option Packet) → ℕ
taken_count bus = taken_from bus 0 places

-- the count of each block of 64 places, and the count of all, match the bus
pub record IsCounted (bus : List (Option Packet)) (taken : List ℕ) (count : ℕ) : Type 0 where
  pub whole : length bus ≡ places
  pub blocks : length taken ≡ 64
  pub each : (b : ℕ) → b < 64 → slice_index taken b ≡ taken_from bus (64 * b) 64
  pub all : count ≡ taken_count bus
