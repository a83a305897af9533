-- What lines of text say of events.
use Rattle.std.specs.Prelude.{◌≡◌, ◌≢◌, ℕ, ◌-◌, ◌<◌, ◌≤◌, ◌^◌, ◌==◌, nat_eq, Bool, true, not, ◌&&◌, if◌then◌else◌, List, [], ◌∷◌, codes, length, map, filter, option_map, Some, All, IfSome, slice_get, take, replicate, IsUtf8}
use Rattle.std.specs.List.{starts_with}
use Rattle.std.specs.Str.Lines.{lines}
use Rattle.dds_base.specs.declared.events.Event.{Event}
use Rattle.dds_base.specs.declared.events.Event.TheVariants.{Write, Fire, Take, SendData, SendGap, SendHeartbeat, SendAckNack, Deliver, Lose}
use Rattle.dds_lists.specs.Lists.{Lists}
use Rattle.dds_text.specs.Names.{reader_keys, writer_keys}
use Rattle.dds_events.specs.Events.{event_text}
use Rattle.dds_events.specs.declared.fault.EventsFault.{EventsFault}
use Rattle.dds_events.specs.declared.fault.EventsFault.TheVariants.{At, NoMemory}
use Rattle.dds_events.specs.declared.fault.EventsFaultKind.TheVariants.{NotText, NotAnEvent}

-- what the event writes, if anything, is 32 zero bytes
abbrev pub HasNoData : Event → Type 0
HasNoData (Write w k payload) = payload ≡ replicate 32 0
HasNoData (Fire u) = Unit {0}
HasNoData (Take r k) = Unit {0}
HasNoData (SendData w r n) = Unit {0}
HasNoData (SendGap w r n) = Unit {0}
HasNoData (SendHeartbeat w r) = Unit {0}
HasNoData (SendAckNack r w) = Unit {0}
HasNoData (Deliver place keep) = Unit {0}
HasNoData (Lose place) = Unit {0}

-- the deployment has the writers, readers, keys and rules that the event names by number, and its other numbers have 64 bits
abbrev pub IsOfDeployment : Lists → Event → Type 0
IsOfDeployment d (Write w k payload) = (w < length d.writers.entries) × (k < length (writer_keys d w))
IsOfDeployment d (Fire u) = u < length d.rules.entries
IsOfDeployment d (Take r k) = (r < length d.readers.entries) × (k < length (reader_keys d r))
IsOfDeployment d (SendData w r n) = (w < length d.writers.entries) × (r < length d.readers.entries) × (n < 2 ^ 64)
IsOfDeployment d (SendGap w r n) = (w < length d.writers.entries) × (r < length d.readers.entries) × (n < 2 ^ 64)
IsOfDeployment d (SendHeartbeat w r) = (w < length d.writers.entries) × (r < length d.readers.entries)
IsOfDeployment d (SendAckNack r w) = (r < length d.readers.entries) × (w < length d.writers.entries)
IsOfDeployment d (Deliver place keep) = place < 2 ^ 64
IsOfDeployment d (Lose place) = place < 2 ^ 64

-- the text says the event
abbrev pub IsSaidBy : Lists → List ℕ → Event → Type 0
IsSaidBy d text event = (event_text d event ≡ text) × HasNoData event

-- the text is not that of the event, if the event is one of the deployment
abbrev pub IsUnsaidBy : Lists → List ℕ → Event → Type 0
IsUnsaidBy d text event = IsOfDeployment d event → event_text d event ≢ text

-- the text stands for no event of the deployment, whatever data a write has
abbrev pub SaysNoEvent : Lists → List ℕ → Type 0
SaysNoEvent d text = (event : Event) → IsUnsaidBy d text event

-- a line says something unless it is empty, a comment, or what says where a sample is lost
abbrev pub says_something : List ℕ → Bool
says_something line =
    not (length line == 0) && (not (starts_with nat_eq line (codes "#")) && not (starts_with nat_eq line (codes "unsafe ")))

-- what stands before the first arrow with its blanks, or all where none stands
unfoldable pub before_arrow : List ℕ → List ℕ
before_arrow [] = []
before_arrow (b ∷ bs) = if starts_with nat_eq (b ∷ bs) (codes " -> ") then [] else b ∷ before_arrow bs

-- what lines say: of each that says something, what stands before the arrow
abbrev pub said_by : List (List ℕ) → List (List ℕ)
said_by lines = map before_arrow (filter says_something lines)

-- what the lines of a text say
abbrev pub said_of : List ℕ → List (List ℕ)
said_of bytes = said_by (lines bytes)

-- the line with this number, from 1, says something
abbrev pub SaysAt : List (List ℕ) → ℕ → Type 0
SaysAt lines n = (1 ≤ n) × (option_map says_something (slice_get lines (n - 1)) ≡ Some true)

-- the lines before the one with this number say events of the deployment
abbrev pub AreSaidBefore : Lists → List (List ℕ) → ℕ → Type 0
AreSaidBefore d lines n = (events : List Event) × All (IsOfDeployment d) events × (map (event_text d) events ≡ said_by (take (n - 1) lines))

-- what stands before the arrow of the line with this number is the text of no event of the deployment
abbrev pub SaysNoEventAt : Lists → List (List ℕ) → ℕ → Type 0
SaysNoEventAt d lines n = IfSome (slice_get lines (n - 1)) (λ line. SaysNoEvent d (before_arrow line))

-- a fault that the lines of a text may have: the first line that says something, but no event of the deployment
abbrev pub IsLineFaultOf : Lists → List ℕ → EventsFault → Type 0
IsLineFaultOf d bytes (At NotText n) = ⊥
IsLineFaultOf d bytes (At NotAnEvent n) = SaysAt (lines bytes) n × AreSaidBefore d (lines bytes) n × SaysNoEventAt d (lines bytes) n
IsLineFaultOf d bytes NoMemory = Unit {0}

-- a fault that bytes may have: they are no UTF-8, or they are, and their lines have it
abbrev pub IsFaultOf : Lists → List ℕ → EventsFault → Type 0
IsFaultOf d bytes (At NotText n) = (n ≡ 0) × (¬ IsUtf8 bytes)
IsFaultOf d bytes (At NotAnEvent n) = IsUtf8 bytes × IsLineFaultOf d bytes (At NotAnEvent n)
IsFaultOf d bytes NoMemory = Unit {0}
