-- A refusal changes nothing; what every world of a run has; and the parts of a domain that stands for one.
use Rattle.std.proofs.Common.{◌≡◌, ℕ, ◌<◌, List, Option, Some, None, refl, sym, subst, ◌∙◌, length, get_or}
use Rattle.dds_base.specs.declared.messages.Packet.{Packet}
use Rattle.dds_base.specs.declared.events.Reply.TheVariants.{Refused}
use Rattle.dds_match.specs.Network.{Network, IsNetwork}
use Rattle.dds_runs.specs.World.{World}
use Rattle.dds_runs.specs.Steps.{Event, Reply, Refusal, refusal, May, RefusedOr, Replies, after}
use Rattle.dds_runs.specs.Runs.{as_moves}
use Rattle.dds_runs.specs.Facts.{FactOf}
use Rattle.dds_runs.specs.Accepted.{Certificate, Accepted}
use Rattle.dds_runs.proofs.Moves.{Healthy}
use Rattle.dds_runs.proofs.Guarded.{Guarded}
use Rattle.dds_runs.proofs.Opening.{world_healthy, world_guarded}
use Rattle.dds_writer.specs.Writer.{WriterState}
use Rattle.dds_reader.specs.Reader.{ReaderState}
use Rattle.dds_domain.specs.Bus.{at_place}
use Rattle.dds_domain.specs.Standing.{BusStands, PartsState, Stands, IsReached, WriterStands, ReaderStands, part_of}

pub healthy : (net : Network) (v : World) → IsNetwork net → IsReached net v → Healthy net v
healthy net v known (ms, run, e) = subst (Healthy net) (sym e) (world_healthy net known (as_moves ms) run)

pub guarded : (net : Network) (cert : Certificate) (v : World) → IsNetwork net → Accepted net cert → IsReached net v → Guarded net cert v
guarded net cert v known accepted (ms, run, e) = subst (Guarded net cert) (sym e) (world_guarded net known cert accepted (as_moves ms) run)

-- ── replies
pub refused : (net : Network) (v : World) (d : PartsState) (e : Event) (y : Refusal) → refusal net v e ≡ Some y → Stands net v d → May net v e (Refused y) × Stands net (after net v e (Refused y)) d
refused net v d e y h s = (subst (λ o. RefusedOr o (Refused y) (Replies net v e (Refused y))) (sym h) refl, s)

pub may : (net : Network) (v : World) (e : Event) (reply : Reply) → refusal net v e ≡ None → Replies net v e reply → May net v e reply
may net v e reply h r = subst (λ o. RefusedOr o reply (Replies net v e reply)) (sym h) r

-- ── parts
pub writer_at : (net : Network) (v : World) (d : PartsState) (w : ℕ) (x : WriterState) → Stands net v d → w < length d.writers → x ≡ get_or d.writers w x → WriterStands net w (v.written w) (v.acked w) x
writer_at net v d w x s b e = subst (WriterStands net w (v.written w) (v.acked w)) (sym e) (s.writers w x b)

pub reader_at : (net : Network) (v : World) (d : PartsState) (r : ℕ) (x : ReaderState) → Stands net v d → r < length d.readers → x ≡ get_or d.readers r x → ReaderStands net r (part_of v r) x
reader_at net v d r x s b e = subst (ReaderStands net r (part_of v r)) (sym e) (s.readers r x b)

-- a packet on the bus has its fact
pub fact_at : (net : Network) (v : World) (d : PartsState) (i : ℕ) (p : Packet) → IsNetwork net → IsReached net v → Stands net v d → at_place d.bus i ≡ Some p → FactOf net v p
fact_at net v d i p known reached s e = (healthy net v known reached).sound.bus i p (sym (s.bus.same i) ∙ e)

-- only the bus changes
pub bus_changes : (net : Network) (v : World) (d : PartsState) (sent : List Packet) (bus : ℕ → Option Packet) (held : List (Option Packet)) → Stands net v d → BusStands bus held → Stands net (record v { sent = sent; bus = bus }) (record d { bus = held })
bus_changes net v d sent bus held s h = record {
  plan = s.plan;
  writer_count = s.writer_count;
  reader_count = s.reader_count;
  writers = s.writers;
  readers = s.readers;
  ledger = record { of = s.ledger.of; permits = s.ledger.permits; spare = s.ledger.spare };
  flight_count = s.flight_count;
  flights = s.flights;
  bus = h;
}
