-- What a replay comes to.
use Rattle.std.proofs.Common.{◌≡◌, ℕ, List, [], map, Ok, Err, refl, inl, inr, subst}
use Rattle.dds_lists.specs.Lists.{Lists}
use Rattle.dds_match.specs.Plan.{network_of}
use Rattle.dds_runs.specs.Steps.{Event, Reply}
use Rattle.dds_runs.specs.Runs.{IsRun}
use Rattle.dds_domain.specs.Standing.{GoesOn, PartsState, StandsAfter}
use Rattle.dds_events.specs.Reading.{IsFaultOf}
use Rattle.dds_events.specs.declared.fault.EventsFault.{EventsFault}
use Rattle.dds_events.specs.declared.fault.EventsFault.TheVariants as unsaid
use Rattle.dds_answers.specs.declared.fault.ToolFault.{ToolFault}
use Rattle.dds_answers.specs.Outcome.{bad_events}
use Rattle.dds_findings.specs.Blocks.{FileNames}
use Rattle.dds_options.specs.declared.style.Style.{Style}
use Rattle.dds_tool.specs.Outcome.{ComesTo}
use Rattle.dds_tool.specs.Replaying.{IsEventsFault, MayReplay}

-- what goes on from the opening is a run
pub run_of : (plan : Lists) (old new : PartsState) (ms : List (Event × Reply)) → StandsAfter [] old → GoesOn old ms new → new.plan ≡ plan → IsRun (network_of plan) ms
unfolding GoesOn
run_of plan old new ms opened goes same = subst (λ (p : Lists). IsRun (network_of p) ms) same (goes [] opened).run

-- the fault of events that could not be read is one that their replay ends with
pub unsaid_comes : (lists : Lists) (bytes : List ℕ) (f : EventsFault) (t : ToolFault) → IsFaultOf lists bytes f → IsEventsFault f t → (names : FileNames) → (style : Style)
    → ComesTo names style ⊥ (MayReplay style (Ok lists) bytes) (Err t)
unsaid_comes lists bytes (unsaid.At kind line) t faulty is names style = rw is (inr (inr (bad_events kind line, inr (kind, line, faulty, refl), refl)))
unsaid_comes lists bytes unsaid.NoMemory t faulty is names style = rw is (inr (inl tt))
