-- How the tables of a row change within a round, and what holds of them between rounds.
use Rattle.std.specs.Prelude.{ℕ, ◌≡◌, ◌⊎◌, ◌+◌, ◌<◌, ◌≤◌, ◌==◌, ◌&&◌, Bool, true, false, max, All, List, [], ◌∷◌, if◌then◌else◌}
use Rattle.dds_base.specs.declared.portion.Portion.{Portion}
use Rattle.dds_match.specs.Network.{Network}
use Rattle.dds_propose.specs.declared.targets.Target.{Target}
use Rattle.dds_propose.specs.declared.weights.Weights.{Weights}
use Rattle.dds_propose.specs.Tables.{cell, is_place, row_of}
use Rattle.dds_propose.specs.Targets.{counts, reader_of}
use Rattle.dds_propose.specs.Relaxation.{IsSame, needs_of, round, spread_by}

-- n for each time that a number stands in a list
abbrev pub risen_by : ℕ → ℕ → List ℕ → ℕ
risen_by w n [] = 0
risen_by w n (x ∷ xs) = (if x == w then n else 0) + risen_by w n xs

-- the key of the reader is the first need of a rule that the row carries by permits
pub record IsNeed (net : Network) (r k : ℕ) : Type 0 where
  pub rule : ℕ
  pub need : Portion ℕ
  pub rest : List (Portion ℕ)
  pub there : rule < net.rules
  pub takes : needs_of net (net.rule rule).takes ≡ need ∷ rest
  pub reader : need.endpoint ≡ r
  pub key : need.key ≡ k

-- each reader of a list hears its key
abbrev pub AreHeard : Network → List (Portion ℕ) → Type 0
AreHeard net es = All (λ e. net.hears e.endpoint e.key ≡ true) es

-- samples of the key count for the target
abbrev pub IsCountedBy : Network → Target → ℕ → ℕ → Type 0
IsCountedBy net target r k = (reader_of target ≡ r) × (counts net target k ≡ true)

-- all weights are 0
pub record IsZero (w : Weights) : Type 0 where
  pub samples : (r k : ℕ) → cell w.samples r k ≡ 0
  pub risen : (r k : ℕ) → cell w.risen r k ≡ 0
  pub takes : (r k : ℕ) → cell w.takes r k ≡ 0
  pub permits : (i k : ℕ) → cell w.permits i k ≡ 0

-- only what the reader hears has risen
abbrev pub IsRisenHeard : Network → Weights → Type 0
IsRisenHeard net w = (r k : ℕ) → 1 ≤ cell w.risen r k → net.hears r k ≡ true

-- between rounds: what a permit lacks is what the samples have risen by, which are the target's or a rule's first need
pub record IsMade (net : Network) (target : Target) (w : Weights) : Type 0 where
  pub permits : (i k : ℕ) → cell w.permits i k + spread_by net (cell w.risen) i k ≡ spread_by net (cell w.samples) i k
  pub heard : IsRisenHeard net w
  pub sources : (r k : ℕ) → 1 ≤ cell w.risen r k → IsCountedBy net target r k ⊎ IsNeed net r k
  pub needs : (r k : ℕ) → 1 ≤ cell w.takes r k → IsNeed net r k

-- the permits of a key at the listed writers have risen by n, each as often as it is listed
pub record RaisesPermits (writers : List ℕ) (k n : ℕ) (old new : Weights) : Type 0 where
  pub samples : new.samples ≡ old.samples
  pub risen : new.risen ≡ old.risen
  pub takes : new.takes ≡ old.takes
  pub permits : (w j : ℕ) → cell new.permits w j ≡ cell old.permits w j + (if is_place w j && (j == k) then risen_by w n writers else 0)

-- permits have followed some samples: with what is left to follow they weigh as much as before
pub record Follows (net : Network) (old new : Weights) (changed : Bool) : Type 0 where
  pub samples : new.samples ≡ old.samples
  pub takes : new.takes ≡ old.takes
  pub less : (r k : ℕ) → cell new.risen r k ≤ cell old.risen r k
  pub permits : (w k : ℕ) → cell new.permits w k + spread_by net (cell new.risen) w k ≡ cell old.permits w k + spread_by net (cell old.risen) w k
  pub still : changed ≡ false → (w k : ℕ) → cell new.permits w k ≡ cell old.permits w k

-- the takes have become these
pub record RaisesTakes (takes : ℕ → ℕ → ℕ) (old new : Weights) (changed : Bool) : Type 0 where
  pub samples : new.samples ≡ old.samples
  pub risen : new.risen ≡ old.risen
  pub permits : new.permits ≡ old.permits
  pub raised : (r k : ℕ) → cell new.takes r k ≡ takes r k
  pub still : changed ≡ false → (r k : ℕ) → cell new.takes r k ≡ cell old.takes r k

-- samples have risen at most to their takes, and it is noted by how much
pub record RaisesSamples (old new : Weights) (changed : Bool) : Type 0 where
  pub takes : new.takes ≡ old.takes
  pub permits : new.permits ≡ old.permits
  pub noted : (r k : ℕ) → cell new.samples r k + cell old.risen r k ≡ cell old.samples r k + cell new.risen r k
  pub most : (r k : ℕ) → cell new.samples r k ≤ max (cell old.samples r k) (cell old.takes r k)
  pub least : (r k : ℕ) → cell old.samples r k ≤ cell new.samples r k
  pub fresh : (r k : ℕ) → cell new.samples r k < cell new.takes r k → cell new.risen r k ≡ cell old.risen r k
  pub still : changed ≡ false → (r k : ℕ) → cell new.samples r k ≡ cell old.samples r k

-- one round over tables is one round of the row
pub record IsRound (net : Network) (target : Target) (old new : Weights) (changed : Bool) : Type 0 where
  pub made : IsMade net target new
  pub same : IsSame (row_of new) (round net (row_of old))
  pub still : changed ≡ false → IsSame (row_of new) (row_of old)
