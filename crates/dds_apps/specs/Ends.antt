-- How the thread of an application ends.
use Rattle.dds_book.specs.declared.fault.BookFault.{BookFault}
use Rattle.dds_book.specs.declared.fault.BookFault.TheVariants as fault
use Rattle.dds_apps.specs.declared.player.AppEnd.{AppEnd}
use Rattle.dds_apps.specs.declared.player.AppEnd.TheVariants as ends

-- after a fault of the book
abbrev pub end_of : BookFault → AppEnd
end_of fault.Closed = ends.Cut
end_of fault.JournalFull = ends.Cut
end_of fault.NotYours = ends.NotYours
end_of fault.NoMemory = ends.NoMemory
