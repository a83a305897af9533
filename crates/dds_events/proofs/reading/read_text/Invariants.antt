use Rattle.std.proofs.Common.{◌≡◌, length, map, take}
use Rattle.std.specs.List.{All}
use Rattle.std.specs.Str.Lines.{lines}
use Rattle.dds_events.specs.Events.{event_text}
use Rattle.dds_events.specs.Reading.{HasNoData, IsOfDeployment, said_by}
use Rattle.dds_events.proofs.reading.read_text.Given as goal

-- the events of the lines so far
abbrev pub invariant-loop-line : goal.invariant-loop-line
invariant-loop-line l =
    (l.number ≡ length l.yielded) × (map (event_text l.lists) l.events.items ≡ said_by (take (length l.yielded) (lines l.text))) × All HasNoData l.events.items × All (IsOfDeployment l.lists) l.events.items
