-- Runs: lists of events and replies, each of which may come when its turn comes. In a wide run any packet that was ever sent may also come again, at
-- any moment: so a law of all wide runs holds whatever a bus repeats or reorders.
use Rattle.std.specs.Prelude.{◌≡◌, ℕ, Bool, false, List, [], ◌∷◌, Option, Some, None}
use Rattle.dds_base.specs.Sums.{In}
use Rattle.dds_match.specs.Network.{Network}
use Rattle.dds_runs.specs.World.{World, Packet, opening}
use Rattle.dds_base.specs.declared.messages.Packet.TheVariants.{Data, Gap, Heartbeat, AckNack}
use Rattle.dds_runs.specs.Steps.{Event, Reply, May, Deliver, after, packet_reply, after_packet}

-- an event, or the arrival of a packet that was sent at some time
pub data Move : Type 0 where
  Do : (event : Event) → Move
  Redeliver : (packet : Packet) → Move

-- the reply may answer a move; a packet can only arrive again if it was sent
abbrev pub MayMove : Network → World → Move → Reply → Type 0
MayMove net v (Do e) reply = May net v e reply
MayMove net v (Redeliver p) reply = In p v.sent × (reply ≡ packet_reply net v p)

-- the world after a move and its reply
abbrev pub after_move : Network → World → Move → Reply → World
after_move net v (Do e) reply = after net v e reply
after_move net v (Redeliver p) reply = after_packet net v p

-- the packet that a move brings to an endpoint, if it brings one
abbrev pub brought : World → Move → Option Packet
brought v (Do (Deliver i keep)) = v.bus i
brought v (Do e) = None
brought v (Redeliver p) = Some p

-- the reader of a packet
abbrev pub reader_of : Packet → ℕ
reader_of (Data d) = d.reader
reader_of (Gap g) = g.reader
reader_of (Heartbeat h) = h.reader
reader_of (AckNack a) = a.reader

-- there is a packet, and its reader is a watcher
abbrev pub is_watchers : Network → Option Packet → Bool
is_watchers net None = false
is_watchers net (Some p) = net.watcher (reader_of p)

-- the world that a run leads to; moves and replies fix it
unfoldable pub replay : Network → World → List (Move × Reply) → World
replay net v [] = v
replay net v (m ∷ ms) = replay net (after_move net v m.0 m.1) ms

-- each reply may answer its move when its turn comes
unfoldable pub IsRunFrom : Network → World → List (Move × Reply) → Type 0
IsRunFrom net v [] = Unit {0}
IsRunFrom net v (m ∷ ms) = MayMove net v m.0 m.1 × IsRunFrom net (after_move net v m.0 m.1) ms

-- a wide run begins with the opening world
abbrev pub IsWideRun : Network → List (Move × Reply) → Type 0
IsWideRun net ms = IsRunFrom net opening ms

-- events as moves: no packet comes again but by the bus
abbrev pub as_moves : List (Event × Reply) → List (Move × Reply)
as_moves [] = []
as_moves (m ∷ ms) = (Do m.0, m.1) ∷ as_moves ms

-- a run of events alone, which is what the code makes
abbrev pub IsRun : Network → List (Event × Reply) → Type 0
IsRun net ms = IsWideRun net (as_moves ms)
