-- What is answered to events that are made again.
use Rattle.std.specs.Prelude.{codes, ℕ, ◌≡◌, ◌⊎◌, ◌&&◌, nat_le, true, List, length, map, Ok, Err, IsUtf8, string_bytes}
use Rattle.dds_fields.specs.Reading.{Read}
use Rattle.dds_lists.specs.Lists.{Lists}
use Rattle.dds_deploy.specs.Document as deployment
use Rattle.dds_match.specs.Plan.{network_of}
use Rattle.dds_runs.specs.Steps.{Event, Reply}
use Rattle.dds_runs.specs.Runs.{IsRun}
use Rattle.dds_domain.specs.Standing.{paired}
use Rattle.dds_events.specs.Events.{event_text}
use Rattle.dds_events.specs.Lines.{lines_of}
use Rattle.dds_events.specs.Reading.{IsFaultOf, said_of}
use Rattle.dds_events.specs.declared.fault.EventsFault.{EventsFault}
use Rattle.dds_events.specs.declared.fault.EventsFault.TheVariants.{At, NoMemory}
use Rattle.dds_events.specs.declared.fault.EventsFaultKind.{EventsFaultKind}
use Rattle.serde_json.specs.Data.{Data, member, no_members, object, string}
use Rattle.dds_json.specs.Line.{line_of}
use Rattle.dds_options.specs.declared.style.Style.{Style}
use Rattle.dds_options.specs.declared.style.Style.TheVariants.{Text, Json}
use Rattle.dds_answers.specs.declared.fault.ToolFault.{ToolFault}
use Rattle.dds_answers.specs.declared.fault.ToolFault.TheVariants as fault
use Rattle.dds_answers.specs.Outcome.{MayIf, Outcome, bad_deployment, bad_events, said}

-- the document of events with their replies: the lines of both
abbrev pub replay_document : Lists → List Event → List Reply → Data
replay_document lists events replies = object (member (codes "answer") (string (codes "yes")) (member (codes "events") (string (lines_of lists events replies)) no_members))

-- events and replies, in this style
abbrev pub told_replay : Style → Lists → List Event → List Reply → List ℕ
told_replay Text lists events replies = lines_of lists events replies
told_replay Json lists events replies = line_of (replay_document lists events replies)

-- the bytes are UTF-8, and the events that they say are replayed, with replies that make them a run of the deployment, and both are printed in this style
abbrev pub IsReplay : Style → Lists → List ℕ → Outcome → Type 0
IsReplay style lists bytes end =
    IsUtf8 bytes × (events : List Event) × (replies : List Reply) × (map (event_text lists) events ≡ said_of bytes) × (length replies ≡ length events)
    × IsRun (network_of lists) (paired events replies) × (end ≡ said (told_replay style lists events replies) true)

-- of a deployment that can be read: its events are replayed, or a flaw of theirs is reported
abbrev pub MayReplayLists : Style → Lists → List ℕ → Outcome → Type 0
MayReplayLists style lists bytes end =
    IsReplay style lists bytes end ⊎ ((kind : EventsFaultKind) × (line : ℕ) × IsFaultOf lists bytes (At kind line) × (end ≡ bad_events kind line))

-- a flaw of the deployment is reported
abbrev pub MayReplay : Style → Read Lists → List ℕ → Outcome → Type 0
MayReplay style (Ok lists) bytes end = MayReplayLists style lists bytes end
MayReplay style (Err flaw) bytes end = end ≡ bad_deployment flaw

-- ── faults
-- the fault of events that could not be read
abbrev pub IsEventsFault : EventsFault → ToolFault → Type 0
IsEventsFault (At kind line) told = told ≡ fault.Events kind line
IsEventsFault NoMemory told = told ≡ fault.NoMemory
