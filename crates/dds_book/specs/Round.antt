-- Rounds: turns of a seat's participant, one after another.
use Rattle.std.specs.Prelude.{◌≡◌, ℕ, ◌+◌, ◌-◌, ◌%◌, ◌^◌, min, Bool, true, false, ◌&&◌, ◌==◌, nat_lt, if◌then◌else◌, Result, Ok, Err, Option, Some, None, List, [], ◌∷◌, ◌++◌, length, slice_get}
use Rattle.std.specs.Option.{option_or}
use Rattle.dds_base.specs.declared.events.Event.{Event}
use Rattle.dds_base.specs.declared.events.Event.TheVariants.{SendHeartbeat, Deliver, Lose}
use Rattle.dds_base.specs.declared.events.Fate.{Fate}
use Rattle.dds_base.specs.declared.events.Reply.{Reply}
use Rattle.dds_lists.specs.Lists.{Lists}
use Rattle.dds_book.specs.declared.fault.BookFault.{BookFault}
use Rattle.dds_book.specs.declared.round.Pace.{Pace}
use Rattle.dds_book.specs.declared.round.Round.{Round}
use Rattle.dds_book.specs.declared.round.RoundEnd.{RoundEnd}
use Rattle.dds_book.specs.declared.round.RoundEnd.TheVariants.{Full, Quiet, GivesWay, Fault}
use Rattle.dds_book.specs.Journal.{AreCalls, changes_in}
use Rattle.dds_book.specs.Seat.{SeatState}
use Rattle.dds_book.specs.State.{BookContent, Pumped, due_at}

-- ── the pace
-- how many events a round enters at most
abbrev pub most_events : ℕ
most_events = 32

-- after so many turns in a row with nothing due a round ends
abbrev pub quiet_turns : ℕ
quiet_turns = 8

-- after so many HEARTBEATs in a row each is in excess
abbrev pub most_heartbeats : ℕ
most_heartbeats = 1

-- a turn more
abbrev pub next_turn : Pace → Pace
next_turn p = record { turn = (p.turn + 1) % 2 ^ 64; moved = p.moved; heartbeats = p.heartbeats }

-- how many packets were moved, after an event
abbrev pub moved_after : ℕ → Event → ℕ
moved_after moved (Deliver i keep) = (moved + 1) % 2 ^ 64
moved_after moved (Lose i) = (moved + 1) % 2 ^ 64
moved_after moved _ = moved

-- how many HEARTBEATs were sent in a row, after an event: to move a packet is to send nothing
abbrev pub heartbeats_after : ℕ → Event → ℕ
heartbeats_after sent (SendHeartbeat w r) = min (sent + 1) (2 ^ 32 - 1)
heartbeats_after sent (Deliver i keep) = sent
heartbeats_after sent (Lose i) = sent
heartbeats_after sent _ = 0

-- an event more
abbrev pub counted : Pace → Event → Pace
counted p e = record { turn = p.turn; moved = moved_after p.moved e; heartbeats = heartbeats_after p.heartbeats e }

-- the event is a HEARTBEAT
abbrev pub is_heartbeat : Event → Bool
is_heartbeat (SendHeartbeat w r) = true
is_heartbeat _ = false

-- the event, which was counted last, is a HEARTBEAT in excess
abbrev pub is_excess : Pace → Event → Bool
is_excess p e = nat_lt most_heartbeats p.heartbeats && is_heartbeat e

-- ── turns
-- the answer of a turn: the event that was entered with its reply, nothing, or a fault
abbrev pub Answer : Type 0
Answer = Result (Option (Event × Reply)) BookFault

-- the pace after a turn with this answer
abbrev pub pace_after : Pace → Answer → Pace
pace_after p (Ok (Some m)) = counted (next_turn p) m.0
pace_after p _ = next_turn p

-- how far a round has come: what was entered, in how many turns in a row nothing was due, what ends the round with its last turn, if anything
-- does, and what book, seat and pace are then
pub record Course : Type 0 where
  pub told : List (Event × Reply)
  pub quiet : ℕ
  pub halt : Option RoundEnd
  pub book : BookContent
  pub seat : SeatState
  pub pace : Pace

-- before the first turn
abbrev pub course_from : BookContent → SeatState → Pace → Course
course_from book seat pace = record { told = []; quiet = 0; halt = None; book = book; seat = seat; pace = pace }

-- what was entered, with a turn more
abbrev pub told_after : List (Event × Reply) → Answer → List (Event × Reply)
told_after told (Ok (Some m)) = told ++ m ∷ []
told_after told _ = told

-- in how many turns in a row nothing was due
abbrev pub quiet_after : ℕ → Answer → ℕ
quiet_after quiet (Ok None) = quiet + 1
quiet_after quiet (Ok (Some m)) = 0
quiet_after quiet (Err f) = quiet

-- a fault ends the round, and so does a HEARTBEAT in excess
abbrev pub halt_after : Pace → Answer → Option RoundEnd
halt_after p (Ok None) = None
halt_after p (Ok (Some m)) = if is_excess p m.0 then Some GivesWay else None
halt_after p (Err f) = Some (Fault f)

-- with a turn more, which had this answer and left this book and this seat
abbrev pub course_after : Course → Answer → BookContent → SeatState → Course
course_after c answer book seat =
    let pace = pace_after c.pace answer in
    record { told = told_after c.told answer; quiet = quiet_after c.quiet answer; halt = halt_after pace answer; book = book; seat = seat; pace = pace }

-- how a round that enters so many events at most ends, if it has ended
abbrev pub end_of : ℕ → Course → Option RoundEnd
end_of most c = option_or c.halt (if c.quiet == quiet_turns then Some Quiet else if length c.told == most then Some Full else None)

-- a turn at this pace is one `pump`, with the pace's number and the fate that comes next, the fates in a circle
pub record IsTurn (plan : Lists) (fates : List Fate) (old new : BookContent) (before after : SeatState) (pace : Pace) (answer : Answer) : Type 0 where
  pub fate : Fate
  pub next : slice_get fates (pace.moved % length fates) ≡ Some fate
  pub pumped : Pumped plan old new before after (due_at plan old.entries before.number pace.turn fate) answer

-- the turns of a round, one after another, as long as it hasn't ended
pub data AreTurns (plan : Lists) (fates : List Fate) (most : ℕ) (start : Course) : Course → Type 0 where
  no_turn : AreTurns plan fates most start start
  one_more : (c : Course) (answer : Answer) (book : BookContent) (seat : SeatState) → AreTurns plan fates most start c → end_of most c ≡ None
      → IsTurn plan fates c.book book c.seat seat c.pace answer → AreTurns plan fates most start (course_after c answer book seat)

-- ── rounds
-- what a round does to a book and a seat: its turns lead to its end. It reports how many events were entered, and how many changes the book has then
pub record IsRound (plan : Lists) (fates : List Fate) (most : ℕ) (old new : BookContent) (before after : SeatState) (from to : Pace) (r : Round) : Type 0 where
  pub course : Course
  pub turns : AreTurns plan fates most (course_from old before from) course
  pub end : end_of most course ≡ Some r.end
  pub book : new ≡ course.book
  pub seat : after ≡ course.seat
  pub pace : to ≡ course.pace
  pub entered : r.entered ≡ length course.told
  pub changes : r.changes ≡ changes_in new.entries

-- what a round gives its seat: so many calls, one after another
pub record GivesCalls (plan : Lists) (before after : SeatState) (entered : ℕ) : Type 0 where
  pub told : List (Event × Reply)
  pub calls : AreCalls plan before.number before.front after.front told
  pub count : entered ≡ length told
