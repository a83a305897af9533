-- What endpoints send, as code sends it: the endpoint is borrowed by its number, and the parts go by other names.
use Rattle.std.proofs.Common.{◌≡◌, ℕ, ◌<◌, true, false, cond, List, Option, length, get_or, set, refl, sym, ap, subst, ◌∙◌}
use Rattle.dds_base.specs.declared.events.Event.TheVariants.{SendAckNack, SendData, SendGap, SendHeartbeat}
use Rattle.dds_base.specs.declared.events.Refusal.TheVariants.{Foreign, NothingToSend}
use Rattle.dds_base.specs.Messages.{HeartbeatFor}
use Rattle.dds_base.specs.declared.messages.AckNack.{AckNack as AckNackFor}
use Rattle.dds_base.specs.declared.messages.Packet.{Packet}
use Rattle.dds_base.specs.declared.messages.Packet.TheVariants.{AckNack, Data, Gap, Heartbeat}
use Rattle.dds_qos.specs.declared.notes.Due.{Due}
use Rattle.dds_qos.specs.declared.notes.Due.TheVariants.{Data as DueData, Gap as DueGap}
use Rattle.dds_qos.specs.Writing.{heartbeat_of}
use Rattle.dds_match.specs.Plan.{network_of}
use Rattle.dds_runs.specs.Steps.{Event, Refused, Sent}
use Rattle.dds_writer.specs.Proxies.{is_matched, proxy_of}
use Rattle.dds_writer.specs.Writer.{WriterState, keeps}
use Rattle.dds_reader.specs.Notes.{pays}
use Rattle.dds_reader.specs.Reader.{ReaderState, acknack_of, heeds, SameMarks, SameReader, SameSamples}
use Rattle.dds_domain.specs.Bus.{sent_to, with_packet}
use Rattle.dds_domain.specs.Sendings.{IsMessage, has_message, sending}
use Rattle.dds_domain.specs.Standing.{PartsState, HasWorld, StepsNotes, StepsWorld}
use Rattle.dds_domain.proofs.Endpoints.{matched_at, matched_within, reliable_at}
use Rattle.dds_domain.proofs.NotesKept.{heartbeat_kept}
use Rattle.dds_domain.proofs.NotesSent.{acknack_paid, data_noted, gap_noted}
use Rattle.dds_domain.proofs.Slots.{lent_at, lent_back}
use Rattle.dds_domain.proofs.StepAckNack.{acknack_done, acknack_nothing}
use Rattle.dds_domain.proofs.StepSend.{data_done, data_foreign, data_nothing, gap_done, gap_foreign, gap_nothing, heartbeat_done}
use Rattle.dds_domain.proofs.Steps.{Steps, refused_as, renamed}
use Rattle.dds_domain.proofs.Writers.{noted}

-- the writer doesn't match the reader
pub message_foreign : (d : PartsState) (w r : ℕ) (due : Due) → (network_of d.plan).matched w r ≡ false → StepsWorld d (sending w r due) (Refused Foreign) d
message_foreign d w r (DueData n) fails = data_foreign d w r n fails
message_foreign d w r (DueGap n) fails = gap_foreign d w r n fails

-- a packet is sent: it goes to the bus, and one writer changes
pub sent_as : (e : Event) (d old : PartsState) (place : Option ℕ) (p : Packet) (bus : List (Option Packet)) (writers : List WriterState) (w i : ℕ) (y z : WriterState) → d ≡ old → place ≡ sent_to d.bus → bus ≡ with_packet d.bus p place → i ≡ w → z ≡ y →
    StepsWorld d e (Sent (sent_to d.bus)) (record d { writers = set writers w y; bus = with_packet d.bus p (sent_to d.bus) }) → StepsWorld old e (Sent place) (record d { writers = set writers i z; bus = bus })
sent_as e d old place p bus writers w i y z olds placed carried number same =
    renamed (λ a reply b. StepsWorld a e reply b) d old _ _ _ _ olds (ap Sent placed) (λ k. record d { writers = set writers (number k) (same k); bus = (carried ∙ ap (with_packet d.bus p) placed) k })

module _ (d old : PartsState) (w r i : ℕ) (x : WriterState) (olds : d ≡ old) (stands : HasWorld old) (pair : (network_of d.plan).matched w r ≡ true) (number : i ≡ w) (item : x ≡ get_or d.writers i x) where
  at : x ≡ get_or d.writers w x
  at = lent_at d.writers w i x number item

  within : w < length d.writers
  within = matched_within d w r (subst HasWorld (sym olds) stands) pair

  -- the writer has a proxy of the reader
  pub message_pair : is_matched r x.proxies ≡ true
  message_pair = matched_at d w r x (subst HasWorld (sym olds) stands) pair at

  -- it has nothing to send
  nothing : (due : Due) → has_message x r due ≡ false → StepsWorld d (sending w r due) (Refused NothingToSend) d
  nothing (DueData n) fails = data_nothing d w r n x pair within at fails
  nothing (DueGap n) fails = gap_nothing d w r n x pair within at fails

  pub message_nothing : (due : Due) → has_message x r due ≡ false → Steps (sending w r due) old (Refused NothingToSend) (record d { writers = set d.writers i x })
  message_nothing due fails = refused_as (sending w r due) NothingToSend d old _ olds (λ k. record d { writers = lent_back d.writers w i x x number item within refl k }) (nothing due fails)

  -- the message is sent
  done : (due : Due) (p : Packet) (last : ℕ) → has_message x r due ≡ true → IsMessage x r due p last →
      StepsWorld d (sending w r due) (Sent (sent_to d.bus)) (record d { writers = set d.writers w (noted x r last); bus = with_packet d.bus p (sent_to d.bus) })
  done (DueData n) (Data m) last passes (same, to, sn, kept) =
      subst (λ k. StepsWorld d (SendData w r n) (Sent (sent_to d.bus)) (record d { writers = set d.writers w (noted x r k); bus = with_packet d.bus (Data m) (sent_to d.bus) })) (sym same) (data_done d w r n x pair within at m passes to sn kept)
  done (DueGap n) (Gap g) last passes (same, is) = gap_done d w r n x pair within at g last passes is
  done due p last passes h = absurd h

  told : (due : Due) (p : Packet) (last : ℕ) (place : Option ℕ) (bus : List (Option Packet)) → has_message x r due ≡ true → IsMessage x r due p last → StepsNotes d (sending w r due) (Sent place) (record d { writers = set d.writers w (noted x r last); bus = bus })
  told (DueData n) (Data m) last place bus passes h = subst (λ k. StepsNotes d (SendData w r n) (Sent place) (record d { writers = set d.writers w (noted x r k); bus = bus })) (sym h.0) (data_noted d w r n x place bus pair within at)
  told (DueGap n) (Gap g) last place bus passes h = subst (λ k. StepsNotes d (SendGap w r n) (Sent place) (record d { writers = set d.writers w (noted x r k); bus = bus })) (sym h.0) (gap_noted d w r n x place bus pair within at g passes h.1)
  told due p last place bus passes h = absurd h

  pub message_done : (due : Due) (p : Packet) (last : ℕ) (y : WriterState) (place : Option ℕ) (bus : List (Option Packet)) → has_message x r due ≡ true → IsMessage x r due p last → y ≡ noted x r last → place ≡ sent_to d.bus → bus ≡ with_packet d.bus p place →
      Steps (sending w r due) old (Sent place) (record d { writers = set d.writers i y; bus = bus })
  message_done due p last y place bus passes is same placed carried = (
    sent_as (sending w r due) d old place p bus d.writers w i (noted x r last) y olds placed carried number same (done due p last passes is),
    renamed (λ a reply b. StepsNotes a (sending w r due) reply b) d old _ _ _ _ olds refl (λ k. record d { writers = set d.writers (number k) (same k); bus = bus }) (told due p last place bus passes is),
  )

  -- a HEARTBEAT is for a reliable reader
  pub heartbeat_pair : (network_of d.plan).watcher r ≡ false → (proxy_of r x.proxies).watcher ≡ false
  heartbeat_pair reliable = reliable_at d w r x (subst HasWorld (sym olds) stands) pair reliable at

  pub heartbeat_sent : (h : HeartbeatFor) (place : Option ℕ) (bus : List (Option Packet)) → (network_of d.plan).watcher r ≡ false → h ≡ heartbeat_of x.me r (keeps x) x.written → place ≡ sent_to d.bus → bus ≡ with_packet d.bus (Heartbeat h) place →
      Steps (SendHeartbeat w r) old (Sent place) (record d { bus = bus })
  heartbeat_sent h place bus reliable is placed carried = (
    renamed (λ a reply b. StepsWorld a (SendHeartbeat w r) reply b) d old _ _ _ _ olds (ap Sent placed) (λ k. record d { bus = (carried ∙ ap (with_packet d.bus (Heartbeat h)) placed) k }) (heartbeat_done d w r x h pair reliable within at is),
    renamed (λ a reply b. StepsNotes a (SendHeartbeat w r) reply b) d old _ _ _ _ olds refl refl (heartbeat_kept d w r place bus),
  )

-- ── an ACKNACK, by a reader that is borrowed
module _ (d old : PartsState) (r w i : ℕ) (x y : ReaderState) (olds : d ≡ old) (below : r < length d.readers) (number : i ≡ r) (item : x ≡ get_or d.readers i x) where
  borrowed : x ≡ get_or d.readers r x
  borrowed = lent_at d.readers r i x number item

  pub acknack_none : (network_of d.plan).matched w r ≡ true → heeds x w ≡ false → y ≡ x → Steps (SendAckNack r w) old (Refused NothingToSend) (record d { readers = set d.readers i y })
  acknack_none matches idle same = refused_as (SendAckNack r w) NothingToSend d old _ olds (λ k. record d { readers = lent_back d.readers r i x y number item below same k }) (acknack_nothing d r w x y below borrowed matches idle)

  pub acknack_sent : (a : AckNackFor) (place : Option ℕ) (bus : List (Option Packet)) → heeds x w ≡ true → y.proxies ≡ cond x.watching x.proxies (pays w x.proxies) → SameMarks x y → SameSamples x y → SameReader x y → a ≡ acknack_of x w → place ≡ sent_to d.bus → bus ≡ with_packet d.bus (AckNack a) place →
      Steps (SendAckNack r w) old (Sent place) (record d { readers = set d.readers i y; bus = bus })
  acknack_sent a place bus knows notes marks samples rest is placed carried = (
    renamed (λ z reply b. StepsWorld z (SendAckNack r w) reply b) d old _ _ _ _ olds (ap Sent placed) (λ k. record d { readers = set d.readers (number k) y; bus = (carried ∙ (λ j. with_packet d.bus (AckNack (is j)) (placed j))) k })
        (acknack_done d r w x y below borrowed knows notes marks samples rest),
    renamed (λ z reply b. StepsNotes z (SendAckNack r w) reply b) d old _ _ _ _ olds refl (λ k. record d { readers = set d.readers (number k) y; bus = bus }) (acknack_paid d r w x y place bus below borrowed knows rest.watching notes),
  )
