use Rattle.std.specs.Prelude.{◌≡◌, ℕ, List, Any, string_bytes}
use Rattle.dds_faults.specs.declared.fault.FileFault.{FileFault}

-- a fault has this number, name and path
pub record IsFault (number : ℕ) (name path : List ℕ) (f : FileFault) : Type 0 where
  pub number_is : f.number ≡ number
  pub name_is : f.name.now ≡ name
  pub path_is : string_bytes f.path ≡ path

-- the fault with this number, name and path is one of these
abbrev pub IsListed : ℕ → List ℕ → List ℕ → List FileFault → Type 0
IsListed number name path faults = Any (IsFault number name path) faults
