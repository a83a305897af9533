-- What a fault of a request says of the devices.
use Rattle.std.specs.Prelude.{◌≡◌, ◌⊎◌, Bool, true}
use Rattle.dds_answers.specs.Causes.{IsFileFault}
use Rattle.dds_answers.specs.Fault.{IsAnswerFault}
use Rattle.dds_answers.specs.declared.fault.ToolFault.{ToolFault}
use Rattle.dds_answers.specs.declared.fault.ToolFault.TheVariants as fault
use Rattle.dds_request.specs.declared.request.PairTask.{PairTask}
use Rattle.dds_request.specs.declared.request.PairTask.TheVariants as pair
use Rattle.dds_request.specs.declared.request.Request.{Request}
use Rattle.dds_request.specs.declared.request.Request.TheVariants as asked

-- a deployment is to run
abbrev pub IsRunTask : PairTask → Type 0
IsRunTask (pair.Run wishes style) = Unit {0}
IsRunTask _ = ⊥

abbrev pub IsRun : Request → Type 0
IsRun (asked.One d asks) = ⊥
IsRun (asked.Two d s asks) = IsRunTask asks

-- the faults with which an answer to the bytes of two files can end: a flaw of a file, or that memory ran out, and for a run that it didn't end by itself
abbrev pub IsPairFault : PairTask → ToolFault → Type 0
IsPairFault asks e = (IsRunTask asks × (e ≡ fault.Run)) ⊎ IsAnswerFault e

-- the faults with which a request can end before anything is written: those of commands on files, and for a run that it didn't end by itself
abbrev pub IsRequestFault : (file_failed : Bool) → Request → ToolFault → Type 0
IsRequestFault file_failed request e = (IsRun request × (e ≡ fault.Run)) ⊎ IsFileFault file_failed e

-- the faults with which it can end: also a failed write, but only where the output has failed
abbrev pub IsCaused : (file_failed output_failed : Bool) → Request → ToolFault → Type 0
IsCaused file_failed output_failed request e = ((e ≡ fault.Write) × (output_failed ≡ true)) ⊎ IsRequestFault file_failed request e
