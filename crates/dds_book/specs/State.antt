-- What contracts see of a book's state, and what its calls do.
use Rattle.std.specs.Prelude.{◌≡◌, ◌++◌, ℕ, Bool, false, not, nat_le, Result, Ok, Err, Option, Some, None, if◌then◌else◌, List, [], ◌∷◌, length, slice_get, MatchBool}
use Rattle.atomic_table.specs.Seated.{TableId}
use Rattle.dds_base.specs.declared.events.Event.{Event}
use Rattle.dds_base.specs.declared.events.Fate.{Fate}
use Rattle.dds_base.specs.declared.events.Reply.{Reply}
use Rattle.dds_lists.specs.Lists.{Lists}
use Rattle.dds_match.specs.Plan.{network_of}
use Rattle.dds_runs.specs.Certified.{IsGood}
use Rattle.dds_runs.specs.Runs.{brought, is_watchers}
use Rattle.dds_runs.specs.Runs.Move.{Do}
use Rattle.dds_runs.specs.Steps.{May}
use Rattle.dds_domain.specs.Schedule.{due}
use Rattle.dds_domain.specs.Standing.{DomainState, IsAt}
use Rattle.dds_book.specs.declared.entry.Entry.{Entry}
use Rattle.dds_book.specs.declared.fault.BookFault.{BookFault}
use Rattle.dds_book.specs.declared.fault.BookFault.TheVariants.{Closed, JournalFull, NotYours, NoMemory}
use Rattle.dds_book.specs.Halves.{HolderState}
use Rattle.dds_book.specs.Journal.{IsCall, IsFront, IsJournal, changes_in, entry_of, most_entries, notes_after, world_after}
use Rattle.dds_book.specs.Owning.{owns, participant_of}
use Rattle.dds_book.specs.Seat.{SeatState, table_at}

-- ── what is seen, and what is kept
-- whether the book is closed, and all that was entered
pub record BookContent : Type 0 where
  pub closed : Bool
  pub entries : List Entry

-- the other half of a seat's pair: it has the seat's table, counts its entries, and its front is the seat's
pub record IsHolder (tables : List TableId) (entries : List Entry) (seat : ℕ) (h : HolderState Entry) : Type 0 where
  pub table : h.table ≡ table_at tables seat
  pub owner : h.owner ≡ seat
  pub front : IsFront seat h.front entries

-- there is one for each seat
pub record AreHolders (tables : List TableId) (entries : List Entry) (holders : List (HolderState Entry)) : Type 0 where
  pub count : length holders ≡ length tables
  pub each : (seat : ℕ) (h : HolderState Entry) → slice_get holders seat ≡ Some h → IsHolder tables entries seat h

-- what a book keeps: its entries are a journal of the plan, the domain stands for the world and the notes that they lead to, each seat's front
-- is known, and the entries that are no refusals are counted
pub record IsBook (plan : Lists) (tables : List TableId) (entries : List Entry) (d : DomainState) (holders : List (HolderState Entry)) (changes : ℕ) : Type 0 where
  pub same_plan : d.checked.plan ≡ plan
  pub stands : IsAt (world_after plan entries) (notes_after plan entries) d
  pub journal : IsJournal plan entries
  pub fronts : AreHolders tables entries holders
  pub counted : changes ≡ changes_in entries

-- ── calls
-- why an event of a seat is not entered, the first reason, `NoMemory` aside
abbrev pub first_fault : Lists → BookContent → ℕ → Event → Option BookFault
first_fault plan book seat event =
    if book.closed then Some Closed
    else if nat_le most_entries (length book.entries) then Some JournalFull
    else if not (owns plan seat event) then Some NotYours
    else None

-- the fault that is returned is the first; where there is none, memory ran out
abbrev pub Tells : Option BookFault → BookFault → Type 0
Tells (Some first) f = f ≡ first
Tells None f = f ≡ NoMemory

-- the event was entered: the journal has one entry more, which is the seat's new front, and the reply may answer the event in the world that the
-- journal led to. It doesn't report a sample rejected or overwritten, unless at a watcher, nor a number given up or a stranger
pub record Enters (plan : Lists) (old new : BookContent) (before after : SeatState) (event : Event) (reply : Reply) : Type 0 where
  pub allowed : first_fault plan old before.number event ≡ None
  pub book : new ≡ record { closed = false; entries = old.entries ++ entry_of before.number event reply ∷ [] }
  pub seat : after ≡ record { number = before.number; front = new.entries }
  pub step : May (network_of plan) (world_after plan old.entries) event reply
  pub good : IsGood (is_watchers (network_of plan) (brought (world_after plan old.entries) (Do event))) reply
  pub call : IsCall plan before.number before.front after.front event reply

-- the event was not entered, and nothing changed
pub record Refuses (plan : Lists) (old new : BookContent) (before after : SeatState) (event : Event) (f : BookFault) : Type 0 where
  pub told : Tells (first_fault plan old before.number event) f
  pub book : new ≡ old
  pub seat : after ≡ before

-- what the participant of a seat is to do in its turn, where the journal has led to
abbrev pub due_at : Lists → List Entry → (seat turn : ℕ) → Fate → Option Event
due_at plan entries seat turn fate = due plan (world_after plan entries) (notes_after plan entries) (participant_of plan seat) turn fate

-- what `pump` does of an open book, with the event that is due, if one is: it enters it as `enter` does, and else changes nothing
abbrev pub PumpsOpen : Lists → BookContent → BookContent → SeatState → SeatState → Option Event → Result (Option (Event × Reply)) BookFault → Type 0
PumpsOpen plan old new before after None result = (result ≡ Ok None) × (new ≡ old) × (after ≡ before)
PumpsOpen plan old new before after (Some event) (Ok (Some told)) = (told.0 ≡ event) × Enters plan old new before after event told.1
PumpsOpen plan old new before after (Some event) (Ok None) = ⊥
PumpsOpen plan old new before after (Some event) (Err f) = Refuses plan old new before after event f

-- what `pump` does: of a closed book nothing
abbrev pub Pumped : Lists → BookContent → BookContent → SeatState → SeatState → Option Event → Result (Option (Event × Reply)) BookFault → Type 0
Pumped plan old new before after event result = MatchBool old.closed ((result ≡ Err Closed) × (new ≡ old) × (after ≡ before)) (PumpsOpen plan old new before after event result)
