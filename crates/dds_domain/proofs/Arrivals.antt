-- A packet that arrives, as code takes it in: its endpoint is borrowed by its number, and the parts and the packet go by other names.
use Rattle.std.proofs.Common.{◌≡◌, ℕ, ◌<◌, ◌&&◌, cond, length, get_or, set, sym, subst}
use Rattle.dds_base.specs.Messages.{DataFor, GapFor, HeartbeatFor, covers}
use Rattle.dds_base.specs.declared.messages.AckNack.{AckNack as AckNackFor}
use Rattle.dds_base.specs.declared.messages.Packet.{Packet}
use Rattle.dds_base.specs.declared.messages.Packet.TheVariants.{Data, Gap, Heartbeat, AckNack}
use Rattle.dds_base.specs.declared.sample.Arrival.{Arrival}
use Rattle.dds_base.specs.declared.events.Reply.{Reply}
use Rattle.dds_base.specs.declared.events.Reply.TheVariants.{Acked, Arrived}
use Rattle.dds_qos.specs.Reading.{below_first, marked_by}
use Rattle.dds_reader.specs.Notes.{hears}
use Rattle.dds_reader.specs.Reader.{ReaderState, data_arrives, gap_arrives, heartbeat_arrives, heeds, MarksMore, OnIdle, SameReader, SameSamples, Stores}
use Rattle.dds_writer.specs.Writer.{WriterState}
use Rattle.dds_domain.specs.Standing.{PartsState, IsSent, Receives, ReceivesNotes}
use Rattle.dds_domain.proofs.NotesReceived.{acknack_told, data_kept, gap_kept, heartbeat_owed}
use Rattle.dds_domain.proofs.Slots.{lent_at}
use Rattle.dds_domain.proofs.StepAck.{acked_writer, acknack_writer, receives_acknack}
use Rattle.dds_domain.proofs.StepReceive.{receive_data, receive_gap, receive_heartbeat}
use Rattle.dds_domain.proofs.Steps.{renamed}

-- what a packet does to the world and to the notes
abbrev pub Arrives : Reply → PartsState → Packet → PartsState → Type 0
Arrives reply old p new = Receives old p reply new × ReceivesNotes old p new

-- at a reader
module _ (d old : PartsState) (q : Packet) (i : ℕ) (x y : ReaderState) (a : Arrival) (olds : d ≡ old) (item : x ≡ get_or d.readers i x) (rest : SameReader x y) where
  to_reader : (p : Packet) (r : ℕ) → q ≡ p → i ≡ r → (x ≡ get_or d.readers r x → Arrives (Arrived a) d p (record d { readers = set d.readers r y })) → Arrives (Arrived a) old q (record d { readers = set d.readers i y })
  to_reader p r same number came = renamed (Arrives (Arrived a)) d old p q _ _ olds same (λ k. record d { readers = set d.readers (number k) y }) (came (lent_at d.readers r i x number item))

  pub data_came : (m : DataFor) → q ≡ Data m → i ≡ m.reader → a ≡ data_arrives x m → MarksMore x y m.sample.writer (marked_by x.watching a m.sample.sn) → Stores x y m.sample a → y.proxies ≡ x.proxies → OnIdle a (y ≡ x) →
      Arrives (Arrived a) old q (record d { readers = set d.readers i y })
  data_came m same number answer marks samples notes idle =
      to_reader (Data m) m.reader same number (λ at. (receive_data d m x y a at answer marks samples notes rest idle, data_kept d m x y at rest.watching notes))

  module _ (samples : SameSamples x y) where
    pub gap_came : (m : GapFor) → q ≡ Gap m → i ≡ m.reader → a ≡ gap_arrives x m → MarksMore x y m.writer (λ n. heeds x m.writer && covers m n) → y.proxies ≡ x.proxies → Arrives (Arrived a) old q (record d { readers = set d.readers i y })
    gap_came m same number answer marks notes = to_reader (Gap m) m.reader same number (λ at. (receive_gap d m x y a at answer marks notes samples rest, gap_kept d m x y at rest.watching notes))

    pub heartbeat_came : (m : HeartbeatFor) → q ≡ Heartbeat m → i ≡ m.reader → a ≡ heartbeat_arrives x m → MarksMore x y m.writer (λ n. heeds x m.writer && below_first m.first n) → y.proxies ≡ cond x.watching x.proxies (hears m.writer m.last x.proxies) →
        Arrives (Arrived a) old q (record d { readers = set d.readers i y })
    heartbeat_came m same number answer marks notes = to_reader (Heartbeat m) m.reader same number (λ at. (receive_heartbeat d m x y a at answer marks notes samples rest, heartbeat_owed d m x y at rest.watching notes))

-- at a writer
pub acknack_came : (d old : PartsState) (q : Packet) (a : AckNackFor) (i : ℕ) (x y : WriterState) → d ≡ old → q ≡ AckNack a → IsSent old q → i ≡ a.writer → x ≡ get_or d.writers i x → y ≡ acked_writer x a.reader a.set →
    Arrives Acked old q (record d { writers = set d.writers i y })
acknack_came d old q a i x y olds same sent number item is =
    let there : a.writer < length d.writers = acknack_writer d a (subst (IsSent d) same (subst (λ z. IsSent z q) (sym olds) sent)) in
    let at = lent_at d.writers a.writer i x number item in
    renamed (Arrives Acked) d old (AckNack a) q _ _ olds same (λ k. record d { writers = set d.writers (number k) y }) (receives_acknack d a x y there at is, acknack_told d a x y there at is)
