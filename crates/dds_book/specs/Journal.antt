-- Journals: what was done in a run, and by which seat. And the fronts of seats, which are what they know of the journal.
use Rattle.std.specs.Prelude.{◌≡◌, ℕ, ◌≤◌, Bool, true, false, not, List, [], ◌∷◌, ◌++◌, length, All}
use Rattle.std.specs.List.{count_by}
use Rattle.dds_base.specs.declared.events.Event.{Event}
use Rattle.dds_base.specs.declared.events.Reply.{Reply}
use Rattle.dds_base.specs.declared.events.Reply.TheVariants.{Refused}
use Rattle.dds_lists.specs.Lists.{Lists}
use Rattle.dds_match.specs.Plan.{network_of}
use Rattle.dds_runs.specs.World.{World, opening}
use Rattle.dds_runs.specs.Runs.{IsRun, as_moves, replay}
use Rattle.dds_domain.specs.Noted.{Noted, noted_by, opening_notes}
use Rattle.dds_book.specs.declared.entry.Entry.{Entry}
use Rattle.dds_book.specs.Halves.{entries_by}
use Rattle.dds_book.specs.Owning.{owns}

-- ── entries
-- what a seat did, and what came of it
abbrev pub entry_of : ℕ → Event → Reply → Entry
entry_of seat event reply = record { seat = seat; event = event; reply = reply }

-- the seat of an entry
abbrev pub seat_of : Entry → ℕ
seat_of e = e.seat

-- the event was refused
abbrev pub is_refused : Reply → Bool
is_refused (Refused why) = true
is_refused _ = false

-- the events with their replies
abbrev pub pairs_of : List Entry → List (Event × Reply)
pairs_of [] = []
pairs_of (e ∷ es) = (e.event, e.reply) ∷ pairs_of es

-- how many entries are this seat's
abbrev pub calls_by : ℕ → List Entry → ℕ
calls_by seat entries = entries_by seat_of seat entries

-- how many entries are no refusals
abbrev pub changes_in : List Entry → ℕ
changes_in entries = count_by (λ e. not (is_refused e.reply)) entries

-- ── journals
-- how many entries a journal has at most
abbrev pub most_entries : ℕ
most_entries = 1048576

-- a run of the plan, in which each event is one of its seat's own
pub record IsJournal (plan : Lists) (entries : List Entry) : Type 0 where
  pub few : length entries ≤ most_entries
  pub run : IsRun (network_of plan) (pairs_of entries)
  pub own : All (λ (e : Entry). owns plan e.seat e.event ≡ true) entries

-- the world that the entries lead to, from the opening world
abbrev pub world_after : Lists → List Entry → World
world_after plan entries = replay (network_of plan) opening (as_moves (pairs_of entries))

-- the notes that they lead to
abbrev pub notes_after : Lists → List Entry → Noted
notes_after plan entries = noted_by (network_of plan) opening opening_notes (pairs_of entries)

-- ── fronts
-- the entries begin with this front, and have no later entry of the seat
pub record IsFront (seat : ℕ) (front entries : List Entry) : Type 0 where
  pub later : List Entry
  pub begins : entries ≡ front ++ later
  pub none : calls_by seat later ≡ 0

-- what a call of a seat gives it: its new front is a journal that begins with the old front, ends with the call, and has no other entry of the
-- seat after the old front
pub record IsCall (plan : Lists) (seat : ℕ) (old new : List Entry) (event : Event) (reply : Reply) : Type 0 where
  pub journal : IsJournal plan new
  pub between : List Entry
  pub none : calls_by seat between ≡ 0
  pub ends : new ≡ (old ++ between) ++ entry_of seat event reply ∷ []

-- calls of a seat, one after another, and what came of each: they lead from its old front to its new one
abbrev pub AreCalls : Lists → ℕ → (old new : List Entry) → List (Event × Reply) → Type 0
AreCalls plan seat old new [] = new ≡ old
AreCalls plan seat old new (m ∷ ms) = (next : List Entry) × IsCall plan seat old next m.0 m.1 × AreCalls plan seat next new ms
