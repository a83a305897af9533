-- What a fault says of the devices.
use Rattle.std.specs.Prelude.{◌≡◌, Bool, true}
use Rattle.dds_answers.specs.declared.fault.ToolFault.{ToolFault}
use Rattle.dds_answers.specs.declared.fault.ToolFault.TheVariants as fault

-- the faults with which a command on files can end before anything is written: a flaw of a file, a file that is too large, no memory, and a failed
-- reading, but only where a file has failed
abbrev pub IsFileFault : (file_failed : Bool) → ToolFault → Type 0
IsFileFault file_failed (fault.Deployment flaw syntax) = Unit {0}
IsFileFault file_failed (fault.Certificate flaw syntax) = Unit {0}
IsFileFault file_failed (fault.Events kind line) = Unit {0}
IsFileFault file_failed (fault.Trace kind line) = Unit {0}
IsFileFault file_failed fault.TooLarge = Unit {0}
IsFileFault file_failed fault.Read = file_failed ≡ true
IsFileFault file_failed fault.NoMemory = Unit {0}
IsFileFault file_failed _ = ⊥
