-- How what a write of a key puts in flight is added up, reader by reader.
use Rattle.std.specs.Prelude.{ℕ, ◌≡◌, ◌*◌, ◌^◌, ◌<◌, ◌≤◌, ◌&&◌, is_none, List, length, slice_index, if◌then◌else◌}
use Rattle.dds_base.specs.Grid.{most_endpoints}
use Rattle.dds_base.specs.Sums.{total}
use Rattle.dds_match.specs.Network.{Network}
use Rattle.dds_runs.specs.Accepted.{Row, carried}

-- what a write of the key at the writer puts in flight for the reader, weighed: nothing where a cap carries it
abbrev pub heard : Network → Row → ℕ → ℕ → ℕ → ℕ
heard net row r w k = if net.matched w r && (net.hears r k && is_none (carried net row r k)) then row.samples r k else 0

-- the place of writer w has what a write of key k there puts in flight for the readers below n, weighed
pub record ShowsHeard (net : Network) (row : Row) (k n : ℕ) (cells : List ℕ) : Type 0 where
  pub len : length cells ≡ most_endpoints
  pub shown : (w : ℕ) → w < net.writers → slice_index cells w ≡ total n (λ r. heard net row r w k)
  pub small : (w : ℕ) → w < net.writers → slice_index cells w ≤ n * 2 ^ 32
