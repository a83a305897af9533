-- Whose each event is. An application writes and takes at the endpoints that it owns and fires its rules; a participant sends from its
-- endpoints, and each participant moves the packets of the bus.
use Rattle.std.specs.Prelude.{ℕ, ◌+◌, ◌-◌, Bool, false, not, ◌&&◌, ◌||◌, ◌==◌, nat_lt, nat_le, length, slice_get}
use Rattle.std.specs.Option.{option_map_or}
use Rattle.dds_base.specs.declared.events.Event.{Event}
use Rattle.dds_base.specs.declared.events.Event.TheVariants.{Write, Fire, Take, SendData, SendGap, SendHeartbeat, SendAckNack, Deliver, Lose}
use Rattle.dds_lists.specs.Lists.{Application, Lists, Reader, Rule, Writer, has}

-- ── seats
-- the applications have the first seats, by number, and the participants those after them
abbrev pub seat_count : Lists → ℕ
seat_count d = length d.applications.entries + length d.participants.entries

-- the seat comes after those of the applications
abbrev pub is_after_apps : Lists → ℕ → Bool
is_after_apps d seat = nat_le (length d.applications.entries) seat

-- the participant whose seat it is, where it is a participant's
abbrev pub participant_of : Lists → ℕ → ℕ
participant_of d seat = seat - length d.applications.entries

-- ── what an event names
-- the event names an endpoint or a rule that isn't there
abbrev pub names_unknown : Lists → Event → Bool
names_unknown d (Write w k x) = not (nat_lt w (length d.writers.entries))
names_unknown d (Fire u) = not (nat_lt u (length d.rules.entries))
names_unknown d (Take r k) = not (nat_lt r (length d.readers.entries))
names_unknown d (SendData w r n) = not (nat_lt w (length d.writers.entries) && nat_lt r (length d.readers.entries))
names_unknown d (SendGap w r n) = not (nat_lt w (length d.writers.entries) && nat_lt r (length d.readers.entries))
names_unknown d (SendHeartbeat w r) = not (nat_lt w (length d.writers.entries) && nat_lt r (length d.readers.entries))
names_unknown d (SendAckNack r w) = not (nat_lt w (length d.writers.entries) && nat_lt r (length d.readers.entries))
names_unknown d (Deliver i keep) = false
names_unknown d (Lose i) = false

-- the seat belongs to the application that owns the writer
abbrev pub has_writer : Lists → ℕ → ℕ → Bool
has_writer d seat w = option_map_or (λ (a : Application). has a.writers w) (slice_get d.applications.entries seat) false

-- the seat belongs to the application that owns the reader
abbrev pub has_reader : Lists → ℕ → ℕ → Bool
has_reader d seat r = option_map_or (λ (a : Application). has a.readers r) (slice_get d.applications.entries seat) false

-- the seat belongs to the rule's application
abbrev pub has_rule : Lists → ℕ → ℕ → Bool
has_rule d seat u = option_map_or (λ (x : Rule). x.application == seat) (slice_get d.rules.entries u) false

-- the seat belongs to the writer's participant
abbrev pub sends_of_writer : Lists → ℕ → ℕ → Bool
sends_of_writer d seat w = is_after_apps d seat && option_map_or (λ (x : Writer). x.participant == participant_of d seat) (slice_get d.writers.entries w) false

-- the seat belongs to the reader's participant
abbrev pub sends_of_reader : Lists → ℕ → ℕ → Bool
sends_of_reader d seat r = is_after_apps d seat && option_map_or (λ (x : Reader). x.participant == participant_of d seat) (slice_get d.readers.entries r) false

-- ── whose it is
-- the seat belongs to the application or participant at which the event happens; packets of the bus are every participant's
abbrev pub is_own : Lists → ℕ → Event → Bool
is_own d seat (Write w k x) = has_writer d seat w
is_own d seat (Fire u) = has_rule d seat u
is_own d seat (Take r k) = has_reader d seat r
is_own d seat (SendData w r n) = sends_of_writer d seat w
is_own d seat (SendGap w r n) = sends_of_writer d seat w
is_own d seat (SendHeartbeat w r) = sends_of_writer d seat w
is_own d seat (SendAckNack r w) = sends_of_reader d seat r
is_own d seat (Deliver i keep) = is_after_apps d seat
is_own d seat (Lose i) = is_after_apps d seat

-- the event is one of the seat's own. One that names what isn't there is every seat's: it is refused as Foreign
abbrev pub owns : Lists → ℕ → Event → Bool
owns d seat e = nat_lt seat (seat_count d) && (names_unknown d e || is_own d seat e)

-- the seat is a participant's
abbrev pub is_participant : Lists → ℕ → Bool
is_participant d seat = is_after_apps d seat && nat_lt seat (seat_count d)
