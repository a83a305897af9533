-- How a run of two files may end.
use Rattle.std.specs.Prelude.{◌≡◌, ◌⊎◌, List, length, Result, Ok, Err}
use Rattle.dds_book.specs.declared.entry.Entry.{Entry}
use Rattle.dds_book.specs.Journal.{IsJournal}
use Rattle.dds_apps.specs.declared.player.AppEnd.{AppEnd}
use Rattle.dds_answers.specs.declared.answer.Answer.{Answer}
use Rattle.dds_answers.specs.declared.fault.ToolFault.{ToolFault}
use Rattle.dds_answers.specs.declared.fault.ToolFault.TheVariants as fault
use Rattle.dds_answers.specs.Answers.{IsAnswer, SaysNothing}
use Rattle.dds_answers.specs.Outcome.{Outcome, accepted, said, told}
use Rattle.dds_answers.specs.Report.{Ends}
use Rattle.dds_json.specs.Ends.{in_style}
use Rattle.dds_options.specs.declared.style.Style.{Style}
use Rattle.dds_tool.specs.RunDocument.{told_run}
use Rattle.dds_lists.specs.Lists.{Lists}
use Rattle.dds_tool.specs.Running.{app_names, because_of}
use Rattle.dds_options.specs.declared.detail.Detail.{Detail}
use Rattle.dds_recap.specs.Ends.{all_good}
use Rattle.dds_options.specs.declared.ends.GoodEnds.{GoodEnds}
use Rattle.dds_request.specs.declared.wishes.Wishes.{Wishes}

-- what is said of a run by its journal and the ends of its applications' threads
abbrev pub ran : GoodEnds → Detail → Style → Lists → List Entry → List AppEnd → Outcome
ran good detail style d journal ends =
    let is_yes = all_good good ends in said (told_run style is_yes (because_of detail d journal ends) (app_names d) journal ends) is_yes

-- how a run of files may end whose check ends so, in this style: where the certificate is accepted, the deployment ran, by a journal of its plan,
-- and the thread of each application ended; every other end is the check's, of which as much is printed as of the run
abbrev pub MayRun : Wishes → Style → Outcome → Outcome → Type 0
MayRun wishes style (accepted d c) end =
    (journal : List Entry) × (ends : List AppEnd) × IsJournal d journal × (length ends ≡ length d.applications.entries) × (end ≡ ran wishes.good wishes.detail style d journal ends)
MayRun wishes style checked end = end ≡ in_style style (told wishes.detail checked)

-- the certificate is accepted
abbrev pub IsAccepted : Outcome → Type 0
IsAccepted (accepted d c) = Unit {0}
IsAccepted _ = ⊥

-- what is given where one of these ends may be: its answer, or the fault with which it ends, or a fault of memory or of a device, or that of a run, but only
-- where it may be broken off
abbrev pub GivesUnless : (Breaks : Type 0) → (Outcome → Type 0) → Result Answer ToolFault → Type 0
GivesUnless Breaks May (Ok answer) = (end : Outcome) × May end × IsAnswer answer end
GivesUnless Breaks May (Err e) = (Breaks × (e ≡ fault.Run)) ⊎ (SaysNothing e ⊎ ((end : Outcome) × May end × Ends e end))
