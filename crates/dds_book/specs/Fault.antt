-- The numbers of the faults of a book.
use Rattle.std.specs.Prelude.{ℕ}
use Rattle.dds_book.specs.declared.fault.BookFault.{BookFault}
use Rattle.dds_book.specs.declared.fault.BookFault.TheVariants.{Closed, JournalFull, NotYours, NoMemory}

abbrev pub number_of : BookFault → ℕ
number_of Closed = 1
number_of JournalFull = 2
number_of NotYours = 3
number_of NoMemory = 4
