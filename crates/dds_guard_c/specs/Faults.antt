-- What a program in C learns of a deployment file that has a fault.
use Rattle.std.specs.Prelude.{◌≡◌, ℕ, List, Ok, Err, length}
use Rattle.dds_fields.specs.FaultTable.{number_of}
use Rattle.dds_fields.specs.declared.fault.FaultKind.{FaultKind}
use Rattle.dds_lists.specs.Lists.{Lists}
use Rattle.dds_deploy.specs.Document.{read}
use Rattle.dds_guard_c.specs.Checking.{put_over}

-- the number is that of the first fault's kind, and its path is put over what was there, as far as there is room, with its whole length
pub record IsFault (bytes : List ℕ) (number whole : ℕ) (old new : List ℕ) : Type 0 where
  pub kind : FaultKind
  pub path : List ℕ
  pub reads : read bytes ≡ Err (kind, path)
  pub numbered : number ≡ number_of kind
  pub long : whole ≡ length path
  pub put : new ≡ put_over path old

-- the bytes are a deployment
abbrev pub IsRight : List ℕ → Type 0
IsRight bytes = (d : Lists) × (read bytes ≡ Ok d)
