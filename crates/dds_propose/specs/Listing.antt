-- The lists of a row from its weights: endpoints in file order, keys in the order of their topic, without zeros.
use Rattle.std.specs.Prelude.{ℕ, List, [], ◌∷◌, ◌++◌, ◌==◌, codes, flat_map, if◌then◌else◌}
use Rattle.std.specs.Fmt.{decimal}
use Rattle.std.specs.List.{range_with_len}
use Rattle.dds_base.specs.Grid.{most_keys}
use Rattle.dds_match.specs.Network.{Network}
use Rattle.dds_weights.specs.declared.certificate.Weight.{Weight}
use Rattle.dds_weights.specs.Lists as lists
use Rattle.dds_runs.specs.Accepted.{Row}

-- the entry of a key, none of weight 0
abbrev pub entry : {E : Type 0} → E → ℕ → ℕ → List (Weight E)
entry e k n = if n == 0 then [] else record { endpoint = e; key = k; weight = n } ∷ []

-- the entries of the first so many keys of an endpoint
unfoldable pub entries_of : {E : Type 0} → E → (ℕ → ℕ) → ℕ → List (Weight E)
entries_of e weight keys = flat_map (λ k. entry e k (weight k)) (range_with_len 0 keys)

-- the entries of the first so many endpoints
abbrev pub entries : (ℕ → ℕ → ℕ) → ℕ → List (Weight ℕ)
entries weight endpoints = flat_map (λ e. entries_of e (weight e) most_keys) (range_with_len 0 endpoints)

-- the row with this place in the certificate, from 0
abbrev pub listed : Network → ℕ → Row → lists.Row
listed net place row = record {
  name = codes "w" ++ decimal place;
  samples = entries row.samples net.readers;
  takes = entries row.takes net.readers;
  permits = entries row.permits net.writers;
}
