-- The weights of a row while it is made: a table with a place for each key of each endpoint.
use Rattle.std.specs.Prelude.{ℕ, ◌+◌, ◌*◌, Bool, ◌&&◌, nat_lt, List, slice_index, if◌then◌else◌}
use Rattle.dds_base.specs.Grid.{most_endpoints, most_keys}
use Rattle.dds_runs.specs.Accepted.{Row}
use Rattle.dds_propose.specs.declared.weights.Weights.{Weights}

-- there is a place for the key of the endpoint
abbrev pub is_place : ℕ → ℕ → Bool
is_place e k = nat_lt e most_endpoints && nat_lt k most_keys

-- the number of a key of an endpoint, 0 where there is no place for it
unfoldable pub cell : List ℕ → ℕ → ℕ → ℕ
cell cells e k = if is_place e k then slice_index cells (e * most_keys + k) else 0

-- the row of some tables
abbrev pub row_of : Weights → Row
row_of weights = record { samples = cell weights.samples; takes = cell weights.takes; permits = cell weights.permits }
