-- Marks at endpoints and keys.
use Rattle.std.specs.Prelude.{◌≡◌, ℕ, ◌+◌, ◌*◌, Bool, false, ◌&&◌, ◌||◌, nat_lt, List, length}
use Rattle.std.specs.List.{slice_index_or}
use Rattle.dds_base.specs.Grid.{most_keys}

-- the mark of an endpoint and a key: each endpoint has a row of 64 places
abbrev pub is_marked : List Bool → ℕ → ℕ → Bool
is_marked marks i k = nat_lt k most_keys && slice_index_or marks (i * most_keys + k) false

-- these marks join the old ones, and no others
pub record AddsMarks (old new : List Bool) (added : ℕ → ℕ → Bool) : Type 0 where
  pub same_size : length new ≡ length old
  pub marks : (i k : ℕ) → is_marked new i k ≡ (is_marked old i k || added i k)
