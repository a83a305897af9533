-- A table with a place for each key of each writer, which says what a write there puts in flight.
use Rattle.std.specs.Prelude.{ℕ, ◌≡◌, ◌+◌, ◌*◌, ◌<◌, List, length, slice_index}
use Rattle.dds_base.specs.Grid.{most_keys, most_places}
use Rattle.dds_match.specs.Network.{Network}
use Rattle.dds_runs.specs.Accepted.{Row, spread}

-- the places of the keys below n have what a write puts in flight, weighed, but for samples that caps carry
pub record ShowsSpreadsBelow (net : Network) (row : Row) (n : ℕ) (cells : List ℕ) : Type 0 where
  pub len : length cells ≡ most_places
  pub shown : (w k : ℕ) → w < net.writers → k < n → slice_index cells (w * most_keys + k) ≡ spread net row w k
