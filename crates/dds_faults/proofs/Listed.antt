use Rattle.std.specs.Prelude.{ℕ, List, refl}
use Rattle.std.specs.List.{insert}
use Rattle.std.proofs.Common.{arith}
use Rattle.dds_faults.specs.declared.fault.FileFault.{FileFault}
use Rattle.dds_faults.specs.Listed.{IsFault, IsListed}

-- a fault that is put first is listed
pub listed_first : (number : ℕ) (name path : List ℕ) (faults : List FileFault) (f : FileFault) → IsFault number name path f → IsListed number name path (insert faults 0 f)
listed_first number name path faults f is = (0, f, omega arith, refl, is)
