-- What the threads of applications keep: their parts of the journal, their counts, and their diaries.
use Rattle.std.specs.Prelude.{◌≡◌, ℕ, ◌<◌, Bool, true, List, length, map, Option, Some, ◌==◌}
use Rattle.std.specs.List.{filter, range_with_len}
use Rattle.atomic_table.specs.Seated.{TableId}
use Rattle.dds_base.specs.declared.events.Event.{Event}
use Rattle.dds_base.specs.declared.events.Reply.{Reply}
use Rattle.dds_book.specs.declared.entry.Entry.{Entry}
use Rattle.dds_book.specs.Gauge.{GaugeSeatState, GaugeState}
use Rattle.dds_book.specs.Journal.{pairs_of}
use Rattle.dds_book.specs.Seat.{SeatState}

-- ── parts of a journal
-- the events of a seat with their replies, in order
abbrev pub entries_of : ℕ → List Entry → List (Event × Reply)
entries_of seat entries = pairs_of (filter (λ (e : Entry). e.seat == seat) entries)

-- what a seat has done: its part of its front
abbrev pub done_by : SeatState → List (Event × Reply)
done_by seat = entries_of seat.number seat.front

-- the parts of the first so many seats
abbrev pub parts_of : ℕ → List Entry → List (List (Event × Reply))
parts_of count entries = map (λ seat. entries_of seat entries) (range_with_len 0 count)

-- ── counts
-- what a seat of a gauge stands for, whatever it has read: the gauge, the application whose count it owns, and that count
pub record Claim : Type 0 where
  pub table : TableId
  pub owner : Option ℕ
  pub count : ℕ

-- the claim of a seat
abbrev pub claim_of : GaugeSeatState → Claim
claim_of seat = record { table = seat.table; owner = seat.owner; count = seat.count }

-- the claim of an application that has done nothing yet
abbrev pub new_claim : TableId → ℕ → Claim
new_claim table app = record { table = table; owner = Some app; count = 0 }

-- these are the seats of the gauge's first owners, in their order, and each count is 0
abbrev pub AreOwners : GaugeState → ℕ → List GaugeSeatState → Type 0
AreOwners gauge count seats = map claim_of seats ≡ map (new_claim gauge.table) (range_with_len 0 count)

-- ── what an application's thread keeps
-- the gauge's seat is this application's, and has counted what its seat at the book has done
pub record IsCounted (table : TableId) (seat : SeatState) (counter : GaugeSeatState) : Type 0 where
  pub gauge : counter.table ≡ table
  pub owner : counter.owner ≡ Some seat.number
  pub count : counter.count ≡ length (done_by seat)

-- the gauge counts what the seat has done, and a diary that was empty at first is that
pub record IsKept (gauge : GaugeState) (fresh : Bool) (seat : SeatState) (counter : GaugeSeatState) (diary : List (Event × Reply)) : Type 0 where
  pub counted : IsCounted gauge.table seat counter
  pub app : seat.number < gauge.apps
  pub entries : fresh ≡ true → done_by seat ≡ diary
