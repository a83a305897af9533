-- The available sample of a key with the least number, of whatever writer, by its place.
use Rattle.std.specs.Prelude.{◌≡◌, ◌⊎◌, ℕ, ◌≤◌, true, List, Option, Some, None, is_some}
use Rattle.std.specs.List.{All}
use Rattle.dds_base.specs.declared.sample.Sample.{Sample}
use Rattle.dds_cache.specs.declared.released.Released.{Released}
use Rattle.dds_cache.specs.Released.{is_listed, released_of}
use Rattle.dds_cache.specs.Order.{Place, Places, held_at}

-- each entry has the number that is released of its writer, so entries for one writer have one number
abbrev pub IsUniform : List Released → Type 0
IsUniform writers = All (λ r. r.upto ≡ released_of r.writer writers) writers

-- the writer of each stored sample is listed
abbrev pub AreListed : List Sample → List Released → Type 0
AreListed stored writers = All (λ x. is_listed x.writer writers ≡ true) stored

-- an available sample of the key stands at the place
pub record IsAvailableAt (places : Places) (writers : List Released) (key : ℕ) (p : Place) : Type 0 where
  pub here : is_some (held_at places p) ≡ true
  pub of_key : p.0.0 ≡ key
  pub available : p.1 ≤ released_of p.0.1 writers

-- no sample is an available one of the key
abbrev pub NoneAvailable : Places → List Released → ℕ → Type 0
NoneAvailable places writers key = (p : Place) → IsAvailableAt places writers key p → ⊥

-- an available sample of the key stands at the place, and none has a lesser number
abbrev pub IsLeastAt : Places → List Released → ℕ → Place → Type 0
IsLeastAt places writers key p = IsAvailableAt places writers key p × ((q : Place) → IsAvailableAt places writers key q → p.1 ≤ q.1)

-- of a place with a ticket and another such pair one with the lesser number
abbrev pub IsLesser : Option (Place × ℕ) → Option (Place × ℕ) → Option (Place × ℕ) → Type 0
IsLesser None found r = r ≡ found
IsLesser (Some best) None r = r ≡ Some best
IsLesser (Some best) (Some found) r = ((r ≡ Some best) × (best.0.1 ≤ found.0.1)) ⊎ ((r ≡ Some found) × (found.0.1 ≤ best.0.1))

-- the place is an available sample's
abbrev pub IsFound : Places → List Released → ℕ → Option (Place × ℕ) → Type 0
IsFound places writers key None = Unit {0}
IsFound places writers key (Some found) = IsAvailableAt places writers key found.0

-- there is a place, and its number is at most n
abbrev pub IsAtMost : Option (Place × ℕ) → ℕ → Type 0
IsAtMost None n = ⊥
IsAtMost (Some found) n = found.0.1 ≤ n

-- of the places of available samples of the key whose writers are among some, best has the least number; None where there is none
pub record IsBest (places : Places) (writers : List Released) (key : ℕ) (among : List Released) (best : Option (Place × ℕ)) : Type 0 where
  pub found : IsFound places writers key best
  pub least : (q : Place) → IsAvailableAt places writers key q → is_listed q.0.1 among ≡ true → IsAtMost best q.1
