-- The numbers and words that users see for a file of events that can't be read.
use Rattle.std.specs.Prelude.{ℕ, List, codes}
use Rattle.dds_events.specs.declared.fault.EventsFaultKind.{EventsFaultKind}
use Rattle.dds_events.specs.declared.fault.EventsFaultKind.TheVariants.{NotText, NotAnEvent}

abbrev pub number_of : EventsFaultKind → ℕ
number_of NotText = 1
number_of NotAnEvent = 2

abbrev pub name_of : EventsFaultKind → List ℕ
name_of NotText = codes "NotText"
name_of NotAnEvent = codes "NotAnEvent"
