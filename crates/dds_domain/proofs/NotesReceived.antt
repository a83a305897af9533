-- What is noted of a packet that arrives: a HEARTBEAT makes a reader owe an ACKNACK, an ACKNACK tells the writer what is asked for.
use Rattle.std.proofs.Common.{◌≡◌, ◌≢◌, inl, inr, ℕ, ◌<◌, Bool, true, false, cond, not, ◌&&◌, ◌||◌, ◌==◌, List, [], ◌∷◌, Option, Some, eqb, map, length, get_or, set, refl, sym, ap, subst, ◌∙◌, arith}
use Rattle.std.specs.List.{All}
use Rattle.std.proofs.lemmas.List.Elements.{All-head, All-tail}
use Rattle.std.proofs.lemmas.Bool.{cases_Bool, eq-eqb, ne_eqb, eqb-true, false≢true, and_parts, not-true, cond_both}
use Rattle.dds_base.specs.Sums.{put}
use Rattle.dds_base.specs.Sets.{NumberSet}
use Rattle.dds_base.specs.Messages.{DataFor, GapFor, HeartbeatFor}
use Rattle.dds_base.proofs.SumLaws.{put_other}
use Rattle.dds_base.specs.declared.messages.AckNack.{AckNack as AckNackFor}
use Rattle.dds_base.specs.declared.messages.Packet.{Packet}
use Rattle.dds_base.specs.declared.messages.Packet.TheVariants.{Data, Gap, Heartbeat, AckNack}
use Rattle.dds_base.specs.declared.events.Event.TheVariants.{Deliver}
use Rattle.dds_base.specs.declared.events.Reply.{Reply}
use Rattle.dds_base.specs.declared.events.Reply.TheVariants.{Refused, Written, Fired, Took, Sent, Arrived, Acked, Dropped}
use Rattle.dds_qos.specs.Notes.{Notes, note_ack}
use Rattle.dds_qos.specs.Writing.{base_after}
use Rattle.dds_match.specs.Network.{Network, IsNetwork, follows}
use Rattle.dds_runs.specs.World.{World}
use Rattle.dds_runs.specs.Steps.{Event}
use Rattle.dds_writer.specs.Proxies.{ProxyState, after_acknack, is_matched, is_of, proxy_of}
use Rattle.dds_writer.specs.Writer.{WriterState}
use Rattle.dds_reader.specs.declared.notes.WriterProxy.{WriterProxy}
use Rattle.dds_reader.specs.Notes.{has_writer, hears, owes_in}
use Rattle.dds_reader.specs.Reader.{ReaderState, owes_to}
use Rattle.dds_domain.specs.Bus.{at_place}
use Rattle.dds_domain.specs.Noted.{Noted, noted_after, noted_changed, noted_packet, put_notes, put_owes}
use Rattle.dds_domain.specs.Standing.{PartsState, NotesStand, OnRefused, ProxyStands, ReaderStands, ReceivesNotes, Stands, StepsNotes, WriterStands, part_of}
use Rattle.dds_domain.proofs.Slots.{set_all}
use Rattle.dds_domain.proofs.Worlds.{fact_at, reader_at, writer_at}
use Rattle.dds_domain.proofs.Writers.{matched_there, watcher_is}
use Rattle.dds_domain.proofs.StepAck.{acked_writer}
use Rattle.dds_domain.proofs.NotesKept.{NotesOf, OwesOf, put_pair, reader_kept}
use Rattle.dds_domain.proofs.NotesSent.{proxy_map, reader_of_proxy}

-- a pair that follows matches, and its reader is no watcher
follows_parts : (net : Network) (w r : ℕ) → follows net w r ≡ true → (net.matched w r ≡ true) × (net.watcher r ≡ false)
follows_parts net w r e = let p = and_parts (net.matched w r) (not (net.watcher r)) e in (p.0, not-true (net.watcher r) p.1)

-- the reader of a matched pair is there
reader_there : (net : Network) (v : World) (d : PartsState) (w r : ℕ) → IsNetwork net → Stands net v d → net.matched w r ≡ true → r < length d.readers
reader_there net v d w r known s t = let below = known.matched_reader w r t in let count = s.reader_count in omega arith

-- ── a DATA and a GAP
pub data_kept : (d : PartsState) (m : DataFor) (x y : ReaderState) → x ≡ get_or d.readers m.reader x → y.watching ≡ x.watching → y.proxies ≡ x.proxies → ReceivesNotes d (Data m) (record d { readers = set d.readers m.reader y })
unfolding ReceivesNotes
data_kept d m x y at kind same net v noted known reached s fact h = record {
  notes = h.notes;
  owes = reader_kept net noted.owes d.readers m.reader x y h.owes (reader_there net v d m.sample.writer m.reader known s fact.matched) at kind same;
}

pub gap_kept : (d : PartsState) (m : GapFor) (x y : ReaderState) → x ≡ get_or d.readers m.reader x → y.watching ≡ x.watching → y.proxies ≡ x.proxies → ReceivesNotes d (Gap m) (record d { readers = set d.readers m.reader y })
unfolding ReceivesNotes
gap_kept d m x y at kind same net v noted known reached s fact h = record {
  notes = h.notes;
  owes = reader_kept net noted.owes d.readers m.reader x y h.owes (reader_there net v d m.writer m.reader known s (follows_parts net m.writer m.reader fact.0).0) at kind same;
}

-- ── a HEARTBEAT
-- an ACKNACK is owed to its writer
owed_here : (w last : ℕ) (ps : List WriterProxy) → has_writer w ps ≡ true → owes_in w (hears w last ps) ≡ true
owed_here w last [] there = absurd (false≢true there)
owed_here w last (p ∷ ps) there = elim (cases_Bool (p.writer == w)) [
  | inl t ↦ rw (t, t) refl
  | inr f ↦ rw (f, f) (owed_here w last ps (sym (ap (λ b. b || has_writer w ps) f) ∙ there))
]

-- to another what was owed
owed_other : (u w last : ℕ) (ps : List WriterProxy) → w ≢ u → owes_in u (hears w last ps) ≡ owes_in u ps
owed_other u w last [] ne = refl
owed_other u w last (p ∷ ps) ne = elim (cases_Bool (p.writer == w)) [
  | inl t ↦ rw t (let apart : (p.writer == u) ≡ false = ne_eqb p.writer u (λ e. ne (sym (eqb-true p.writer w t) ∙ e)) in rw apart (owed_other u w last ps ne))
  | inr f ↦ rw f (ap (λ b. cond (p.writer == u) p.owes b) (owed_other u w last ps ne))
]

pub heartbeat_owed : (d : PartsState) (m : HeartbeatFor) (x y : ReaderState) → x ≡ get_or d.readers m.reader x → y.watching ≡ x.watching → y.proxies ≡ cond x.watching x.proxies (hears m.writer m.last x.proxies) →
    ReceivesNotes d (Heartbeat m) (record d { readers = set d.readers m.reader y })
unfolding ReceivesNotes
heartbeat_owed d m x y at kind notes net v noted known reached s fact h =
    subst (λ b. NotesStand net (cond b (put_owes noted m.reader m.writer true) noted) (record d { readers = set d.readers m.reader y })) (sym fact.0) (record {
      notes = h.notes;
      owes = set_all (OwesOf net) noted.owes (put noted.owes m.reader (put (noted.owes m.reader) m.writer true)) d.readers m.reader y h.owes
          (λ j ne. put_other noted.owes m.reader j (put (noted.owes m.reader) m.writer true) ne)
          (put_pair (λ u o. net.matched u m.reader ≡ true → owes_to y u ≡ o) noted.owes m.reader m.writer true
          (λ t. owed m.writer ∙ owed_here m.writer m.last x.proxies (stands.proxies m.writer ∙ t))
          (λ u ne t. owed u ∙ (owed_other u m.writer m.last x.proxies ne ∙ (sym (ap (λ k. not k && owes_in u x.proxies) reliable) ∙ before u t))));
    })
  where
    pair : (net.matched m.writer m.reader ≡ true) × (net.watcher m.reader ≡ false)
    pair = follows_parts net m.writer m.reader fact.0

    there : m.reader < length d.readers
    there = reader_there net v d m.writer m.reader known s pair.0

    stands : ReaderStands net m.reader (part_of v m.reader) x
    stands = reader_at net v d m.reader x s there at

    reliable : x.watching ≡ false
    reliable = stands.watching ∙ pair.1

    -- what it owes now
    owed : (u : ℕ) → owes_to y u ≡ owes_in u (hears m.writer m.last x.proxies)
    owed u =
        ap (λ ps. not y.watching && owes_in u ps) (notes ∙ ap (λ k. cond k x.proxies (hears m.writer m.last x.proxies)) reliable)
        ∙ ap (λ k. not k && owes_in u (hears m.writer m.last x.proxies)) (kind ∙ reliable)

    before : (u : ℕ) → net.matched u m.reader ≡ true → owes_to x u ≡ noted.owes m.reader u
    before = subst (OwesOf net m.reader (noted.owes m.reader)) (sym at) (h.owes m.reader x there)

-- ── an ACKNACK
module _ (r : ℕ) (asked : NumberSet) (written : ℕ) where
  -- the proxy of a reader that asks
  abbrev answered : ProxyState → ProxyState
  answered p = record { reader = p.reader; filter = p.filter; watcher = p.watcher; base = base_after p.base asked.base written; notes = note_ack p.base written asked p.notes }

  answered_reader : (p : ProxyState) → (after_acknack r asked written p).reader ≡ p.reader
  answered_reader p = cond_both (is_of r p && not p.watcher) (answered p) p (λ (q : ProxyState). q.reader ≡ p.reader) (λ e. refl) (λ e. refl)

  -- what a reliable reader asks for is noted
  answered_here : (ps : List ProxyState) → is_matched r ps ≡ true → (proxy_of r ps).watcher ≡ false → (proxy_of r (map (after_acknack r asked written) ps)).notes ≡ note_ack (proxy_of r ps).base written asked (proxy_of r ps).notes
  answered_here ps t reliable =
      ap (λ (q : ProxyState). q.notes) (proxy_map (after_acknack r asked written) answered_reader r ps t)
      ∙ (λ i. (cond (eq-eqb (proxy_of r ps).reader r (reader_of_proxy r ps) i && not (reliable i)) (answered (proxy_of r ps)) (proxy_of r ps)).notes)

  -- another's notes are as they were
  answered_other : (q : ℕ) (ps : List ProxyState) → r ≢ q → is_matched q ps ≡ true → (proxy_of q (map (after_acknack r asked written) ps)).notes ≡ (proxy_of q ps).notes
  answered_other q ps ne t =
      ap (λ (p : ProxyState). p.notes) (proxy_map (after_acknack r asked written) answered_reader q ps t)
      ∙ ap (λ b. (cond (b && not (proxy_of q ps).watcher) (answered (proxy_of q ps)) (proxy_of q ps)).notes) (ne_eqb (proxy_of q ps).reader r (λ e. ne (sym e ∙ reader_of_proxy q ps)))

-- the base that is held of a matched reader
base_held : (net : Network) (acked : ℕ → ℕ) (r : ℕ) (ps : List ProxyState) → All (ProxyStands net acked) ps → is_matched r ps ≡ true → (proxy_of r ps).base ≡ acked r
base_held net acked r [] all t = absurd (false≢true t)
base_held net acked r (p ∷ ps) all t = go (eqb p.reader r) refl t (base_held net acked r ps (All-tail (ProxyStands net acked) p ps all))
  where
    go : (b : Bool) → eqb p.reader r ≡ b → (b || is_matched r ps) ≡ true → (is_matched r ps ≡ true → (proxy_of r ps).base ≡ acked r) → (cond b p (proxy_of r ps)).base ≡ acked r
    go true e t rest = (All-head (ProxyStands net acked) p ps all).base ∙ ap acked (eqb-true p.reader r e)
    go false e t rest = rest t

pub acknack_told : (d : PartsState) (a : AckNackFor) (x y : WriterState) → a.writer < length d.writers → x ≡ get_or d.writers a.writer x → y ≡ acked_writer x a.reader a.set → ReceivesNotes d (AckNack a) (record d { writers = set d.writers a.writer y })
unfolding ReceivesNotes
acknack_told d a x y b at is net v noted known reached s fact h =
    subst (λ t. NotesStand net (cond t (put_notes noted a.writer a.reader now) noted) (record d { writers = set d.writers a.writer y })) (sym fact.0) (record {
      notes = set_all (NotesOf net) noted.notes (put noted.notes a.writer (put (noted.notes a.writer) a.reader now)) d.writers a.writer y h.notes
          (λ j ne. put_other noted.notes a.writer j (put (noted.notes a.writer) a.reader now) ne)
          (put_pair (λ q m. net.matched a.writer q ≡ true → (proxy_of q y.proxies).notes ≡ m) noted.notes a.writer a.reader now
          (λ t. ap (λ (z : WriterState). (proxy_of a.reader z.proxies).notes) is ∙ (answered_here a.reader a.set x.written x.proxies (there a.reader t) reliable ∙ (λ i. note_ack (held t i) (stands.written i) a.set (before a.reader t i))))
          (λ q ne t. ap (λ (z : WriterState). (proxy_of q z.proxies).notes) is ∙ (answered_other a.reader a.set x.written q x.proxies ne (there q t) ∙ before q t)));
      owes = h.owes;
    })
  where
    now : Notes
    now = note_ack (v.acked a.writer a.reader) (length (v.written a.writer)) a.set (noted.notes a.writer a.reader)

    pair : (net.matched a.writer a.reader ≡ true) × (net.watcher a.reader ≡ false)
    pair = follows_parts net a.writer a.reader fact.0

    stands : WriterStands net a.writer (v.written a.writer) (v.acked a.writer) x
    stands = writer_at net v d a.writer x s b at

    there : (q : ℕ) → net.matched a.writer q ≡ true → is_matched q x.proxies ≡ true
    there q t = matched_there net a.writer q (v.written a.writer) (v.acked a.writer) x known stands t

    reliable : (proxy_of a.reader x.proxies).watcher ≡ false
    reliable = watcher_is net a.writer a.reader (v.written a.writer) (v.acked a.writer) x known stands pair.0 ∙ pair.1

    held : net.matched a.writer a.reader ≡ true → (proxy_of a.reader x.proxies).base ≡ v.acked a.writer a.reader
    held t = base_held net (v.acked a.writer) a.reader x.proxies stands.proxies (there a.reader t)

    before : (q : ℕ) → net.matched a.writer q ≡ true → (proxy_of q x.proxies).notes ≡ noted.notes a.writer q
    before = subst (NotesOf net a.writer (noted.notes a.writer)) (sym at) (h.notes a.writer x b)

-- ── a delivery
-- the notes after an event that was not refused
not_refused : (net : Network) (v : World) (noted : Noted) (e : Event) (reply : Reply) → OnRefused reply ⊥ → noted_after net v noted e reply ≡ noted_changed net v noted e
not_refused net v noted e (Refused why) h = absurd h
not_refused net v noted e (Written n) h = refl
not_refused net v noted e Fired h = refl
not_refused net v noted e (Took s) h = refl
not_refused net v noted e (Sent o) h = refl
not_refused net v noted e (Arrived a) h = refl
not_refused net v noted e Acked h = refl
not_refused net v noted e Dropped h = refl

-- the packet of a place arrived, whatever becomes of the place
pub deliver_noted : (d : PartsState) (i : ℕ) (keep : Bool) (p : Packet) (reply : Reply) (new : PartsState) (bus : List (Option Packet)) → at_place d.bus i ≡ Some p → OnRefused reply ⊥ → ReceivesNotes d p new → StepsNotes d (Deliver i keep) reply (record new { bus = bus })
unfolding StepsNotes ReceivesNotes
deliver_noted d i keep p reply new bus at arrives received net v noted known reached s h =
    let came = received net v noted known reached s (fact_at net v d i p known reached s at) h in
    let is : noted_after net v noted (Deliver i keep) reply ≡ noted_packet net v noted (Some p) = not_refused net v noted (Deliver i keep) reply arrives ∙ ap (noted_packet net v noted) (sym (s.bus.same i) ∙ at) in
    subst (λ n. NotesStand net n (record new { bus = bus })) (sym is) (record { notes = came.notes; owes = came.owes })
