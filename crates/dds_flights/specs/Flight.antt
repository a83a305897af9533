-- What is under way of a key to a reader that gives its writer a cap or a lag.
use Rattle.std.specs.Prelude.{◌≡◌, ℕ, ◌+◌, ◌-◌, ◌<◌, Bool, true, false, if◌then◌else◌, ◌==◌, ◌&&◌, ◌||◌, nat_le, is_some, List, [], ◌∷◌, ◌++◌, length, drop, Option, Some, None}
use Rattle.std.specs.List.{list_any}
use Rattle.dds_qos.specs.Admission.{is_reached}

-- the reader and the key; its cap and its lag there; by a cap how many samples of the key, written at the writer, the reader has yet to take; and by a
-- lag the numbers of the newest of them, the oldest first and at most as many as the lag
pub record FlightState : Type 0 where
  pub reader : ℕ
  pub key : ℕ
  pub cap : Option ℕ
  pub lag : Option ℕ
  pub untaken : ℕ
  pub newest : List ℕ

-- before the first event
abbrev pub opening_flight : ℕ → ℕ → Option ℕ → Option ℕ → FlightState
opening_flight r k cap lag = record { reader = r; key = k; cap = cap; lag = lag; untaken = 0; newest = [] }

-- the oldest of the numbers isn't below the base
abbrev pub is_oldest_from : List ℕ → ℕ → Bool
is_oldest_from [] base = true
is_oldest_from (n ∷ ns) base = nat_le base n

-- by the lag no more samples may be written while the reader's base is this: as many of the newest aren't below it
abbrev pub is_lagging : Option ℕ → List ℕ → ℕ → Bool
is_lagging None ns base = false
is_lagging (Some n) ns base = nat_le n (length ns) && is_oldest_from ns base

-- no more samples may be written while the reader's base is this
abbrev pub is_full : FlightState → ℕ → Bool
is_full f base = is_reached f.cap f.untaken || is_lagging f.lag f.newest base

-- a flight of the key is full, where these are the bases of the readers
abbrev pub is_any_full : (ℕ → ℕ) → ℕ → List FlightState → Bool
is_any_full bases k fs = list_any (λ f. (f.key == k) && is_full f (bases f.reader)) fs

-- the flight is of this reader and key
abbrev pub is_of : ℕ → ℕ → FlightState → Bool
is_of r k f = (f.reader == r) && (f.key == k)

-- the newest numbers, at most so many, after one more
abbrev pub remembered : ℕ → List ℕ → ℕ → List ℕ
remembered most ns n = if most == 0 then ns else (if nat_le most (length ns) then drop 1 ns else ns) ++ n ∷ []

abbrev pub newest_after : Option ℕ → List ℕ → ℕ → List ℕ
newest_after None ns n = ns
newest_after (Some most) ns n = remembered most ns n

-- the writer wrote a sample of the key under the number
abbrev pub after_write : ℕ → ℕ → FlightState → FlightState
after_write k n f = if f.key == k then record f { untaken = if is_some f.cap then f.untaken + 1 else f.untaken; newest = newest_after f.lag f.newest n } else f

-- the reader took a sample of the key
abbrev pub after_take : ℕ → ℕ → FlightState → FlightState
after_take r k f = if is_of r k f then record f { untaken = f.untaken - 1 } else f

-- a cap leaves room for one more
abbrev pub HasRoom : FlightState → Type 0
HasRoom f = (n : ℕ) → f.cap ≡ Some n → f.untaken < n
