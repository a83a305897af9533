-- Seats: what a caller of a book holds.
use Rattle.std.specs.Prelude.{ℕ, List, [], slice_index_or}
use Rattle.atomic_table.specs.Seated.{TableId}
use Rattle.dds_book.specs.declared.entry.Entry.{Entry}

-- the place of the seat in the list of seats, and its front: the journal as the seat's last entered call left it
pub record SeatState : Type 0 where
  pub number : ℕ
  pub front : List Entry

-- a seat that has done nothing yet
abbrev pub new_seat : ℕ → SeatState
new_seat number = record { number = number; front = [] }

-- the name of no table
abbrev pub no_table : TableId
no_table = record { words = 0; slots = 0; views_name = 0; atom = 0; block = 0; offset = 0; slot_names = [] }

-- the table of a seat's pair, of the tables of all seats
abbrev pub table_at : List TableId → ℕ → TableId
table_at tables seat = slice_index_or tables seat no_table
