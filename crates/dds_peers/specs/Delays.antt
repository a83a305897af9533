-- For how long the threads of a run wait before they begin.
use Rattle.std.specs.Prelude.{◌≡◌, ℕ, ◌-◌, nat_lt, List, length, slice_get, Option, Some, if◌then◌else◌}
use Rattle.std.specs.Option.{option_map_or}
use Rattle.dds_lists.specs.declared.lists.Joins.TheVariants.{Before}
use Rattle.dds_lists.specs.Lists.{Application, Lists, Participant}
use Rattle.dds_book.specs.Owning.{participant_of, seat_count}

-- the participant of a seat: the application's, or the one whose seat it is
abbrev pub home_of : Lists → ℕ → ℕ
home_of d seat =
    if nat_lt seat (length d.applications.entries) then option_map_or (λ (a : Application). a.participant) (slice_get d.applications.entries seat) 0
    else participant_of d seat

-- a participant that is there before the first write begins at once
abbrev pub IsDelay : Lists → ℕ → ℕ → Type 0
IsDelay d p n = (x : Participant) → slice_get d.participants.entries p ≡ Some x → x.joins ≡ Before → n ≡ 0

-- there is a delay for each seat
pub record AreDelays (d : Lists) (ns : List ℕ) : Type 0 where
  pub count : length ns ≡ seat_count d
  pub each : (seat n : ℕ) → slice_get ns seat ≡ Some n → IsDelay d (home_of d seat) n
