-- Counts by endpoint and key.
use Rattle.std.specs.Prelude.{◌≡◌, ℕ, ◌+◌, ◌*◌, ◌&&◌, ◌==◌, if◌then◌else◌, nat_lt, List, replicate, slice_index}
use Rattle.dds_base.specs.Grid.{most_keys}

-- a row of 64 places for each endpoint
pub record CountTable : Type 0 where
  pub endpoints : ℕ
  pub places : List ℕ

-- the count of an endpoint and a key, 0 where the table has no such place
abbrev pub count_at : CountTable → ℕ → ℕ → ℕ
count_at t i k = if nat_lt k most_keys then slice_index t.places (i * most_keys + k) else 0

-- a table in which each count is 0
abbrev pub no_counts : ℕ → CountTable
no_counts n = record { endpoints = n; places = replicate (n * most_keys) 0 }

-- so many at one endpoint and key, none elsewhere
abbrev pub only_at : ℕ → ℕ → ℕ → ℕ → ℕ → ℕ
only_at e l n i k = if (e == i) && (l == k) then n else 0

-- each count of the new table is the one of the old table and so many more
pub record IsMoreBy (more : ℕ → ℕ → ℕ) (old new : CountTable) : Type 0 where
  pub endpoints : new.endpoints ≡ old.endpoints
  pub counts : (i k : ℕ) → count_at new i k ≡ count_at old i k + more i k
