-- What is found of a path in a text.
use Rattle.std.specs.Prelude.{ℕ}
use Rattle.dds_locate.specs.declared.places.Found.{Found}
use Rattle.dds_locate.specs.Spans.{IsWithin}

-- its stretches are of a text of this length
pub record IsFoundIn (n : ℕ) (found : Found) : Type 0 where
  pub name : IsWithin n found.name
  pub value : IsWithin n found.value
