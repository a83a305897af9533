-- The lines of events with their replies.
use Rattle.std.specs.Prelude.{ℕ, List, ◌++◌, codes, flat_map}
use Rattle.std.specs.List.{zip}
use Rattle.dds_base.specs.declared.events.Event.{Event}
use Rattle.dds_base.specs.declared.events.Reply.{Reply}
use Rattle.dds_lists.specs.Lists.{Lists}
use Rattle.dds_events.specs.Events.{event_text}
use Rattle.dds_events.specs.Replies.{reply_text}

-- the line of an event with its reply
abbrev pub line_of : Lists → Event → Reply → List ℕ
line_of d event reply = event_text d event ++ (codes " -> " ++ (reply_text d reply ++ codes "\n"))

-- the line of an event and a reply that belong together
abbrev pub line_of_pair : Lists → Event × Reply → List ℕ
line_of_pair d pair = line_of d pair.0 pair.1

-- the lines of events and replies, as far as both go
abbrev pub lines_of : Lists → List Event → List Reply → List ℕ
lines_of d events replies = flat_map (line_of_pair d) (zip events replies)
