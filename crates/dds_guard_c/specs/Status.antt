-- The numbers that calls answer, as the header lists them.
use Rattle.std.specs.Prelude.{ℕ, Option, Some, None}
use Rattle.dds_guard.specs.declared.refused.FiringRefused.{FiringRefused}
use Rattle.dds_guard.specs.declared.refused.FiringRefused.TheVariants as firing
use Rattle.dds_guard.specs.declared.refused.OpenFault.{OpenFault}
use Rattle.dds_guard.specs.declared.refused.OpenFault.TheVariants as opening
use Rattle.dds_guard.specs.declared.refused.TakeRefused.{TakeRefused}
use Rattle.dds_guard.specs.declared.refused.TakeRefused.TheVariants as taking
use Rattle.dds_guard.specs.declared.refused.UndoRefused.{UndoRefused}
use Rattle.dds_guard.specs.declared.refused.UndoRefused.TheVariants as undoing
use Rattle.dds_guard.specs.declared.refused.WriteRefused.{WriteRefused}
use Rattle.dds_guard.specs.declared.refused.WriteRefused.TheVariants as writing

abbrev pub fault_status : OpenFault → ℕ
fault_status (opening.Deployment kind) = 1
fault_status opening.UnknownApplication = 3
fault_status opening.NoMemory = 2

abbrev pub take_status : Option TakeRefused → ℕ
take_status None = 0
take_status (Some taking.Foreign) = 6
take_status (Some taking.CountLimit) = 9

abbrev pub firing_status : Option FiringRefused → ℕ
firing_status None = 0
firing_status (Some firing.Foreign) = 6
firing_status (Some firing.NotEnough) = 8
firing_status (Some firing.CountLimit) = 9

abbrev pub write_status : Option WriteRefused → ℕ
write_status None = 0
write_status (Some writing.Foreign) = 6
write_status (Some writing.NoPermit) = 7

abbrev pub undo_status : Option UndoRefused → ℕ
undo_status None = 0
undo_status (Some undoing.Foreign) = 6
undo_status (Some undoing.NotWritten) = 13

-- a name's number is given, or the name is unknown
abbrev pub name_status : Option ℕ → ℕ
name_status None = 3
name_status (Some n) = 0

-- a count is given, or the endpoint isn't the application's
abbrev pub count_status : Option ℕ → ℕ
count_status None = 6
count_status (Some n) = 0
