-- What a list of weights gives the keys of endpoints.
use Rattle.std.specs.Prelude.{ℕ, ◌==◌, ◌&&◌, List, [], ◌∷◌, if◌then◌else◌}
use Rattle.dds_weights.specs.declared.certificate.Weight.{Weight}

-- the weight of a key of an endpoint, 0 where none is named, by the numbers of the endpoints
abbrev pub weight_by : {E : Type 0} → (E → ℕ) → List (Weight E) → ℕ → ℕ → ℕ
weight_by number [] e k = 0
weight_by number (x ∷ xs) e k = if (number x.endpoint == e) && (x.key == k) then x.weight else weight_by number xs e k
