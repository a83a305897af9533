-- What a command gives to the output.
use Rattle.std.specs.Prelude.{ℕ, ◌≡◌, ◌⊎◌, Bool, Result, Ok, Err, MatchResult, string_bytes, if◌then◌else◌}
use Rattle.dds_answers.specs.declared.answer.Answer.{Answer}
use Rattle.dds_answers.specs.Exit.{exit_status}
use Rattle.dds_answers.specs.declared.exit.Exit.{Exit}
use Rattle.dds_answers.specs.declared.exit.Exit.TheVariants as exit
use Rattle.dds_answers.specs.declared.fault.ToolFault.{ToolFault}
use Rattle.dds_answers.specs.declared.fault.ToolFault.TheVariants as fault
use Rattle.dds_answers.specs.Outcome.{Outcome}
use Rattle.dds_answers.specs.Report.{Ends, output_of, status_of}

-- how a command ends with an answer
abbrev pub answer_exit : Bool → Exit
answer_exit is_yes = if is_yes then exit.Yes else exit.No

-- its exit status
abbrev pub answer_status : Bool → ℕ
answer_status is_yes = exit_status (answer_exit is_yes)

-- the text and the status belong to this end
abbrev pub IsAnswer : Answer → Outcome → Type 0
IsAnswer answer end = (string_bytes answer.text ≡ output_of end) × (answer_status answer.is_yes ≡ status_of end)

-- the answer of this end, or the fault with which it ends, or a fault of memory or of a device
abbrev pub Gives : Result Answer ToolFault → Outcome → Type 0
Gives result end = MatchResult result (λ answer. IsAnswer answer end) (λ e. Ends e end)

-- a fault of memory or of a device, which says nothing of how the command would have ended
abbrev pub SaysNothing : ToolFault → Type 0
SaysNothing fault.Read = Unit {0}
SaysNothing fault.Write = Unit {0}
SaysNothing fault.NoMemory = Unit {0}
SaysNothing _ = ⊥

-- the answer of an end that may be, or the fault with which one that may be ends, or a fault of memory or of a device
abbrev pub GivesOneOf : (Outcome → Type 0) → Result Answer ToolFault → Type 0
GivesOneOf May (Ok answer) = (end : Outcome) × May end × IsAnswer answer end
GivesOneOf May (Err e) = SaysNothing e ⊎ ((end : Outcome) × May end × Ends e end)
