use Rattle.std.proofs.Common.{◌≡◌, flat_map, length, string_bytes, take}
use Rattle.std.specs.List.{zip}
use Rattle.dds_events.specs.Lines.{line_of_pair}
use Rattle.dds_events.proofs.lines.lines_text.Given as goal

-- the lines of the events and replies so far
abbrev pub invariant-loop-event : goal.invariant-loop-event
invariant-loop-event l = string_bytes l.text ≡ flat_map (line_of_pair l.lists) (take (length l.yielded) (zip l.events l.replies))
