-- Events that leave all notes as they were, besides refusals: writes, firings, takes, HEARTBEATs that are sent, and losses.
use Rattle.std.proofs.Common.{◌≡◌, inl, inr, ℕ, ◌<◌, Bool, true, not, ◌&&◌, List, Option, length, get_or, set, refl, sym, ap, subst, ◌∙◌}
use Rattle.std.proofs.lemmas.Bool.{cases_eq}
use Rattle.dds_base.specs.Sums.{put}
use Rattle.dds_base.proofs.SumLaws.{put_at, put_other}
use Rattle.dds_base.specs.declared.sample.Sample.{Sample}
use Rattle.dds_base.specs.declared.messages.Packet.{Packet}
use Rattle.dds_base.specs.declared.events.Event.TheVariants.{Write, Fire, Take, SendHeartbeat, Lose}
use Rattle.dds_base.specs.declared.events.Reply.TheVariants.{Written, Fired, Took, Sent, Dropped}
use Rattle.dds_qos.specs.Notes.{Notes}
use Rattle.dds_match.specs.Network.{Network}
use Rattle.dds_rules.specs.Ledger.{LedgerState}
use Rattle.dds_flights.specs.Flight.{FlightState}
use Rattle.dds_writer.specs.Proxies.{proxy_of}
use Rattle.dds_writer.specs.Writer.{WriterState}
use Rattle.dds_reader.specs.Notes.{owes_in}
use Rattle.dds_reader.specs.Reader.{ReaderState, owes_to}
use Rattle.dds_domain.specs.Standing.{PartsState, AllAt, StepsNotes}
use Rattle.dds_domain.proofs.Slots.{set_all}

-- ── one endpoint
-- what a writer noted of its matched readers
abbrev pub NotesOf : Network → ℕ → (ℕ → Notes) → WriterState → Type 0
NotesOf net w notes x = (r : ℕ) → net.matched w r ≡ true → (proxy_of r x.proxies).notes ≡ notes r

-- to which matched writers a reader owes an ACKNACK
abbrev pub OwesOf : Network → ℕ → (ℕ → Bool) → ReaderState → Type 0
OwesOf net r owes x = (w : ℕ) → net.matched w r ≡ true → owes_to x w ≡ owes w

-- a function of two numbers, changed at one pair: what holds of the others there, and of the new value at the pair
pub put_pair : {A : Type 0} (P : ℕ → A → Type 0) (f : ℕ → ℕ → A) (i j : ℕ) (v : A) → P j v → ((k : ℕ) → (j ≡ k → ⊥) → P k (f i k)) → (k : ℕ) → P k (put f i (put (f i) j v) i k)
put_pair P f i j v here there k = subst (λ g. P k (g k)) (sym (put_at f i (put (f i) j v))) (elim (cases_eq j k) [
  | inl e ↦ subst (λ m. P m (put (f i) j v m)) e (subst (P j) (sym (put_at (f i) j v)) here)
  | inr ne ↦ subst (P k) (sym (put_other (f i) j k v ne)) (there k ne)
])

-- ── one endpoint of a list
-- a writer whose proxies are as they were
pub writer_kept : (net : Network) (notes : ℕ → ℕ → Notes) (xs : List WriterState) (w : ℕ) (x y : WriterState) → AllAt (λ j z. NotesOf net j (notes j) z) xs → w < length xs → x ≡ get_or xs w x → y.proxies ≡ x.proxies →
    AllAt (λ j z. NotesOf net j (notes j) z) (set xs w y)
writer_kept net notes xs w x y all b at same = set_all (NotesOf net) notes notes xs w y all (λ j ne. refl)
    (λ r t. ap (λ ps. (proxy_of r ps).notes) same ∙ subst (NotesOf net w (notes w)) (sym at) (all w x b) r t)

-- a reader that is of the same kind and owes what it owed
pub reader_kept : (net : Network) (owes : ℕ → ℕ → Bool) (xs : List ReaderState) (r : ℕ) (x y : ReaderState) → AllAt (λ j z. OwesOf net j (owes j) z) xs → r < length xs → x ≡ get_or xs r x → y.watching ≡ x.watching → y.proxies ≡ x.proxies →
    AllAt (λ j z. OwesOf net j (owes j) z) (set xs r y)
reader_kept net owes xs r x y all b at kind same = set_all (OwesOf net) owes owes xs r y all (λ j ne. refl)
    (λ w t. (λ i. not (kind i) && owes_in w (same i)) ∙ subst (OwesOf net r (owes r)) (sym at) (all r x b) w t)

-- ── steps
-- a write
pub write_kept : (d : PartsState) (w k n : ℕ) (payload : List ℕ) (x y : WriterState) (l : LedgerState) (fs : List (List FlightState)) → w < length d.writers → x ≡ get_or d.writers w x → y.proxies ≡ x.proxies
    → StepsNotes d (Write w k payload) (Written n) (record d { writers = set d.writers w y; ledger = l; flights = fs })
unfolding StepsNotes
write_kept d w k n payload x y l fs b at same net v noted known reached s h = record { notes = writer_kept net noted.notes d.writers w x y h.notes b at same; owes = h.owes }

-- a firing
pub fire_kept : (d : PartsState) (u : ℕ) (l : LedgerState) → StepsNotes d (Fire u) Fired (record d { ledger = l })
unfolding StepsNotes
fire_kept d u l net v noted known reached s h = record { notes = h.notes; owes = h.owes }

-- a take
pub take_kept : (d : PartsState) (r k : ℕ) (t : Sample) (x y : ReaderState) (l : LedgerState) (fs : List (List FlightState)) → r < length d.readers → x ≡ get_or d.readers r x → y.watching ≡ x.watching → y.proxies ≡ x.proxies
    → StepsNotes d (Take r k) (Took t) (record d { readers = set d.readers r y; ledger = l; flights = fs })
unfolding StepsNotes
take_kept d r k t x y l fs b at kind same net v noted known reached s h = record { notes = h.notes; owes = reader_kept net noted.owes d.readers r x y h.owes b at kind same }

-- a HEARTBEAT that is sent
pub heartbeat_kept : (d : PartsState) (w r : ℕ) (place : Option ℕ) (bus : List (Option Packet)) → StepsNotes d (SendHeartbeat w r) (Sent place) (record d { bus = bus })
unfolding StepsNotes
heartbeat_kept d w r place bus net v noted known reached s h = record { notes = h.notes; owes = h.owes }

-- a packet that is lost
pub lose_kept : (d : PartsState) (i : ℕ) (bus : List (Option Packet)) → StepsNotes d (Lose i) Dropped (record d { bus = bus })
unfolding StepsNotes
lose_kept d i bus net v noted known reached s h = record { notes = h.notes; owes = h.owes }
