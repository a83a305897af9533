-- The number by which an entry of a list is found: that of the place which its endpoint and key have in the grid.
use Rattle.std.specs.Prelude.{ℕ, ◌+◌, ◌*◌, ◌&&◌, nat_lt, if◌then◌else◌}
use Rattle.dds_base.specs.Grid.{most_endpoints, most_keys, most_places}
use Rattle.dds_weights.specs.declared.certificate.Weight.{Weight}
use Rattle.dds_weights.specs.declared.certificate.Bound.{Bound}

-- the number of the place of a key of an endpoint, and the number after all places where it has none
abbrev pub place_number : ℕ → ℕ → ℕ
place_number e k = if nat_lt e most_endpoints && nat_lt k most_keys then e * most_keys + k else most_places

-- by the numbers of the endpoints
abbrev pub weight_number : {E : Type 0} → (E → ℕ) → Weight E → ℕ
weight_number number x = place_number (number x.endpoint) x.key

abbrev pub bound_number : Bound → ℕ
bound_number b = place_number b.reader b.key
