-- What the lists of neighbours hold.
use Rattle.std.specs.Prelude.{◌≡◌, ℕ, List, [], slice_get}
use Rattle.std.specs.Option.{option_map_or}
use Rattle.std.specs.declared.vec.Vec.{Vec}
use Rattle.dds_lists.specs.Lists.{Lists}
use Rattle.dds_match.specs.declared.neighbours.Neighbours.{Neighbours}
use Rattle.dds_match.specs.Network.{matched_readers, matched_writers}
use Rattle.dds_match.specs.Plan.{network_of, participant_readers, participant_writers}

-- the list at a place, empty where there is none
abbrev pub list_at : {X Z : Type 0} → List (Vec X Z) → ℕ → List X
list_at lists i = option_map_or (λ v. v.items) (slice_get lists i) []

-- at each place stands the list of its number, and the list of a number without a place is empty
abbrev pub ShowsEach : {A Z : Type 0} → (ℕ → List A) → List (Vec A Z) → Type 0
ShowsEach list_of lists = (i : ℕ) → list_at lists i ≡ list_of i

-- each list shows its word
pub record ShowsNeighbours (d : Lists) (n : Neighbours) : Type 0 where
  pub readers_of : ShowsEach (matched_readers (network_of d)) n.readers_of.items
  pub writers_of : ShowsEach (matched_writers (network_of d)) n.writers_of.items
  pub writers_at : ShowsEach (participant_writers d) n.writers_at.items
  pub readers_at : ShowsEach (participant_readers d) n.readers_at.items
