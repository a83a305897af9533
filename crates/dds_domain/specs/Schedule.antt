-- What a participant is to do in a turn. The schedule is no part of a run: any schedule makes a run.
use Rattle.std.specs.Prelude.{ℕ, ◌-◌, ◌/◌, ◌%◌, Bool, true, false, if◌then◌else◌, nat_le, not, ◌&&◌, ◌||◌, ◌==◌, length, Option, Some, None}
use Rattle.dds_base.specs.Sums.{least, count_below}
use Rattle.dds_base.specs.declared.events.Event.{Event}
use Rattle.dds_base.specs.declared.events.Event.TheVariants.{SendData, SendGap, SendHeartbeat, SendAckNack, Deliver, Lose}
use Rattle.dds_base.specs.declared.events.Fate.{Fate}
use Rattle.dds_base.specs.declared.events.Fate.TheVariants.{Pass, Keep, Last, Lose as LoseIt}
use Rattle.dds_qos.specs.declared.notes.Due.{Due}
use Rattle.dds_qos.specs.declared.notes.Due.TheVariants.{Data as DueData, Gap as DueGap}
use Rattle.dds_qos.specs.Notes.{due_of, watch_due_of}
use Rattle.dds_lists.specs.Lists.{Lists}
use Rattle.dds_match.specs.Network.{Network}
use Rattle.dds_match.specs.Plan.{matched, network_of}
pub use Rattle.dds_match.specs.Plan.{is_reader_of, is_writer_of}
use Rattle.dds_runs.specs.First.{first_below}
use Rattle.dds_runs.specs.World.{World, is_pending, is_at_hand, is_relevant, is_offered}
use Rattle.dds_runs.specs.Steps.{places, is_none_of}
use Rattle.dds_domain.specs.Noted.{Noted}
use Rattle.dds_domain.specs.declared.schedule.Sending.{Sending}
use Rattle.dds_domain.specs.declared.schedule.Sending.TheVariants.{Data, Gap, Heartbeat, AckNack}

-- ── a participant's matched pairs
-- what f gives for the first reader of those that match the writer, in file order, for which it gives something
abbrev pub first_of_writer : Lists → ℕ → (ℕ → ℕ → Option Event) → Option Event
first_of_writer d w f = first_below (length d.readers.entries) (λ r. if matched d w r then f w r else None)

-- the same of the participant's writers: by writer and then by reader
abbrev pub first_by_writer : Lists → ℕ → (ℕ → ℕ → Option Event) → Option Event
first_by_writer d p f = first_below (length d.writers.entries) (λ w. if is_writer_of d p w then first_of_writer d w f else None)

-- what f gives for the first writer of those that match the reader, in file order, for which it gives something
abbrev pub first_of_reader : Lists → ℕ → (ℕ → ℕ → Option Event) → Option Event
first_of_reader d r f = first_below (length d.writers.entries) (λ w. if matched d w r then f r w else None)

-- the same of the participant's readers: by reader and then by writer
abbrev pub first_by_reader : Lists → ℕ → (ℕ → ℕ → Option Event) → Option Event
first_by_reader d p f = first_below (length d.readers.entries) (λ r. if is_reader_of d p r then first_of_reader d r f else None)

-- ── the bus
-- a packet is at the place
abbrev pub is_taken : World → ℕ → Bool
is_taken v i = not (is_none_of (v.bus i))

-- how many packets are on the bus
abbrev pub load : World → ℕ
load v = count_below places (is_taken v)

-- the lowest place with a packet, where there is one
abbrev pub lowest : World → ℕ
lowest v = least (is_taken v) places 0

-- the highest place with a packet, where there is one
abbrev pub highest : World → ℕ
highest v = places - 1 - least (λ k. is_taken v (places - 1 - k)) places 0

-- what a fate makes of the bus, where it isn't empty
abbrev pub by_fate : World → Fate → Event
by_fate v Pass = Deliver (lowest v) false
by_fate v Keep = Deliver (lowest v) true
by_fate v Last = Deliver (highest v) false
by_fate v LoseIt = Lose (lowest v)

-- ── what is sent
-- what a writer is to send a reader next: a DATA, a GAP or nothing; never a GAP to a watcher
abbrev pub writer_due : Network → World → Noted → ℕ → ℕ → Option Due
writer_due net v noted w r =
    if net.watcher r then watch_due_of (λ n. is_at_hand net v w r n && is_relevant net v w r n) (noted.notes w r) (length (v.written w))
    else due_of (is_pending net v w) (is_offered net v w r) (v.acked w r) (noted.notes w r) (length (v.written w))

-- the sending of the DATA that is due, if a DATA is
abbrev pub as_data : ℕ → ℕ → Option Due → Option Event
as_data w r (Some (DueData n)) = Some (SendData w r n)
as_data w r _ = None

-- the sending of the GAP that is due, if a GAP is
abbrev pub as_gap : ℕ → ℕ → Option Due → Option Event
as_gap w r (Some (DueGap n)) = Some (SendGap w r n)
as_gap w r _ = None

-- a HEARTBEAT is due to a strict reader that has not acknowledged all that is written
abbrev pub heartbeat_due : Network → World → ℕ → ℕ → Option Event
heartbeat_due net v w r = if not (net.watcher r) && nat_le (v.acked w r) (length (v.written w)) then Some (SendHeartbeat w r) else None

-- an ACKNACK is due where the reader owes one
abbrev pub acknack_due : Noted → ℕ → ℕ → Option Event
acknack_due noted r w = if noted.owes r w then Some (SendAckNack r w) else None

-- the sending of that kind that is due of a writer to a reader
abbrev pub due_to : Network → World → Noted → Sending → ℕ → ℕ → Option Event
due_to net v noted Data w r = as_data w r (writer_due net v noted w r)
due_to net v noted Gap w r = as_gap w r (writer_due net v noted w r)
due_to net v noted Heartbeat w r = heartbeat_due net v w r
due_to net v noted AckNack w r = None

-- what the even turns send, in a circle of four
abbrev pub sending_of : ℕ → Sending
sending_of turn = if turn / 2 % 4 == 0 then Data else if turn / 2 % 4 == 1 then Gap else if turn / 2 % 4 == 2 then Heartbeat else AckNack

-- the first sending of that kind that is due at the participant
abbrev pub send_due : Lists → World → Noted → ℕ → Sending → Option Event
send_due d v noted p AckNack = first_by_reader d p (acknack_due noted)
send_due d v noted p kind = first_by_writer d p (due_to (network_of d) v noted kind)

-- ── a turn
-- the participant turns to the bus: it holds 64 packets or more, or the turn is odd and it isn't empty
abbrev pub is_bus_turn : World → ℕ → Bool
is_bus_turn v turn = nat_le 64 (load v) || ((turn % 2 == 1) && nat_le 1 (load v))

-- what the participant is to do in the turn, if anything: on the bus by fate; else nothing in an odd turn, and in an even one the first sending
-- of the turn's kind that is due
abbrev pub due : Lists → World → Noted → (participant turn : ℕ) → Fate → Option Event
due d v noted p turn fate = if is_bus_turn v turn then Some (by_fate v fate) else if turn % 2 == 1 then None else send_due d v noted p (sending_of turn)
