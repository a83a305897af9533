-- The lists of a certificate, as contracts see them, and the weights that a row gives.
use Rattle.std.specs.Prelude.{ℕ, ◌==◌, ◌&&◌, List, [], ◌∷◌, if◌then◌else◌}
use Rattle.dds_weights.specs.declared.certificate.Weight.{Weight}
use Rattle.dds_weights.specs.declared.certificate.Bound.{Bound}
use Rattle.dds_weights.specs.declared.certificate.Total.{Total}

-- the weights of samples in flight, of unspent takes and of permits
pub record Row : Type 0 where
  pub name : List ℕ
  pub samples : List (Weight ℕ)
  pub takes : List (Weight ℕ)
  pub permits : List (Weight ℕ)

pub record Certificate : Type 0 where
  pub rows : List Row
  pub bounds : List Bound
  pub totals : List Total

-- the weight of a key of an endpoint, 0 where none is named
abbrev pub weight_of : List (Weight ℕ) → ℕ → ℕ → ℕ
weight_of [] e k = 0
weight_of (x ∷ xs) e k = if (x.endpoint == e) && (x.key == k) then x.weight else weight_of xs e k
