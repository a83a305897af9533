-- What stands on the error output.
use Rattle.std.specs.Prelude.{◌≡◌, ℕ, List, Option}
use Rattle.std.specs.Io.KnownBytes.{Appends}
use Rattle.dds_answers.specs.declared.exit.Exit.{Exit}
use Rattle.dds_answers.specs.declared.fault.ToolFault.{ToolFault}
use Rattle.dds_answers.specs.Fault.{exit_of, fault_line}

-- the line of one fault with which a command ends so is added, and nothing else
abbrev pub TellsFault : Exit → (old new : Option (List ℕ)) → Type 0
TellsFault exit old new = (fault : ToolFault) × (exit_of fault ≡ exit) × Appends old new (fault_line fault)
