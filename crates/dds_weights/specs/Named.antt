-- A table with a place for each key of each endpoint, which says what a list names.
use Rattle.std.specs.Prelude.{ℕ, ◌≡◌, ◌+◌, ◌*◌, ◌<◌, Bool, true, false, ◌==◌, ◌&&◌, List, length, map, slice_index_or}
use Rattle.std.specs.List.{list_any}
use Rattle.dds_base.specs.Grid.{most_endpoints, most_keys, most_places}
use Rattle.dds_base.specs.Pairs.{stands}
use Rattle.dds_weights.specs.declared.certificate.Bound.{Bound}
use Rattle.dds_weights.specs.declared.certificate.Total.{Total}
use Rattle.dds_weights.specs.Fits.{is_distinct}

-- a place of the table
abbrev pub IsWithin : ℕ × ℕ → Type 0
IsWithin p = (p.0 < most_endpoints) × (p.1 < most_keys)

-- the second names the same endpoint and key as the first
abbrev pub same_place : {X : Type 0} → (X → ℕ × ℕ) → X → X → Bool
same_place place x y = ((place y).0 == (place x).0) && ((place y).1 == (place x).1)

-- the cell of an endpoint and key says whether the list names them, and it names nothing twice
pub record ShowsNamed {X : Type 0} (place : X → ℕ × ℕ) (cells : List Bool) (xs : List X) : Type 0 where
  pub len : length cells ≡ most_places
  pub shown : (e k : ℕ) → e < most_endpoints → k < most_keys → slice_index_or cells (e * most_keys + k) false ≡ stands (map place xs) e k
  pub distinct : is_distinct (same_place place) xs ≡ true

-- the reader and the key of a bound
abbrev pub bound_place : Bound → ℕ × ℕ
bound_place x = (x.reader, x.key)

-- one of these is of the reader
abbrev pub has_total : List Total → ℕ → Bool
has_total before r = list_any (λ t. r == t.reader) before
