-- A DATA, a GAP or a HEARTBEAT arrives at its reader.
use Rattle.std.proofs.Common.{◌≡◌, ◌≢◌, inl, inr, ℕ, ◌<◌, Bool, true, false, cond, not, ◌&&◌, List, length, get_or, set, refl, sym, ap, subst, ◌∙◌, length-set, arith}
use Rattle.std.proofs.lemmas.Bool.{and_parts}
use Rattle.dds_base.specs.Messages.{DataFor, GapFor, HeartbeatFor, covers}
use Rattle.dds_base.specs.declared.sample.Sample.{Sample}
use Rattle.dds_base.specs.declared.sample.Arrival.{Arrival}
use Rattle.dds_base.specs.declared.sample.Arrival.TheVariants.{New, Repeat}
use Rattle.dds_base.specs.declared.sample.Arrival.TheVariants.{Overwrote as Overwrites}
use Rattle.dds_base.specs.declared.messages.Packet.TheVariants.{Data, Gap, Heartbeat}
use Rattle.dds_base.specs.declared.events.Reply.TheVariants.{Arrived}
use Rattle.dds_base.proofs.SumLaws.{put_other}
use Rattle.dds_qos.specs.declared.admission.Admit.{Admit}
use Rattle.dds_qos.specs.declared.admission.Admit.TheVariants.{Stored, Overwrote, Rejected}
use Rattle.dds_qos.specs.Reading.{arrival_of, below_first, marked_by}
use Rattle.dds_qos.specs.Admission.{admission}
use Rattle.dds_match.specs.Network.{Network, IsNetwork, follows}
use Rattle.dds_runs.specs.World.{World, marked, stored, known_keys}
use Rattle.dds_runs.specs.Steps.{after_data, after_watched, give_up, after_gap, after_heartbeat, store, arrival_of_data}
use Rattle.dds_runs.specs.Facts.{IsWrittenFor}
use Rattle.dds_runs.proofs.Moves.{Healthy, answered_is, from_one}
use Rattle.dds_reader.specs.Notes.{hears}
use Rattle.dds_reader.specs.Reader.{ReaderState, data_arrives, gap_arrives, heartbeat_arrives, heeds, MarksMore, OnIdle, SameReader, SameSamples, Stores}
use Rattle.dds_domain.specs.Standing.{PartsState, IsReached, ReaderStands, Receives, Stands, part_of}
use Rattle.dds_domain.proofs.Slots.{set_all, set_back}
use Rattle.dds_domain.proofs.Worlds.{healthy, reader_at}
use Rattle.dds_domain.proofs.Readers.{data_is, gap_is, heartbeat_is, store_stands, over_stands, watch_stands, watch_over_stands, gap_stands, heartbeat_stands}

-- the reader of a matched pair is there
at_reader : (net : Network) (v : World) (d : PartsState) (w r : ℕ) → IsNetwork net → Stands net v d → net.matched w r ≡ true → r < length d.readers
at_reader net v d w r known s pair = let below = known.matched_reader w r pair in let count = s.reader_count in omega arith

-- ── the world after
-- a world with other arrivals, and the rest as it was
abbrev arrived : World → (ℕ → List Sample) → (ℕ → List Sample) → (ℕ → ℕ → ℕ → Bool) → (ℕ → ℕ → ℕ → Bool) → (ℕ → ℕ → ℕ) → World
arrived v received overwritten irrelevant lost heard = record v { received = received; overwritten = overwritten; irrelevant = irrelevant; lost = lost; heard = heard }

-- one reader changed, and what arrived at the others is as it was
reader_world : (net : Network) (v : World) (d : PartsState) (r : ℕ) (y : ReaderState) (received overwritten : ℕ → List Sample) (irrelevant lost : ℕ → ℕ → ℕ → Bool) (heard : ℕ → ℕ → ℕ) → Stands net v d →
    ((j : ℕ) → r ≢ j → received j ≡ v.received j) → ((j : ℕ) → r ≢ j → overwritten j ≡ v.overwritten j) → ((j : ℕ) → r ≢ j → irrelevant j ≡ v.irrelevant j) → ((j : ℕ) → r ≢ j → lost j ≡ v.lost j) → ((j : ℕ) → r ≢ j → heard j ≡ v.heard j) →
    ReaderStands net r (part_of (arrived v received overwritten irrelevant lost heard) r) y → Stands net (arrived v received overwritten irrelevant lost heard) (record d { readers = set d.readers r y })
reader_world net v d r y received overwritten irrelevant lost heard s same over same' same'' same''' h = record {
  plan = s.plan;
  writer_count = s.writer_count;
  reader_count = length-set d.readers r y ∙ s.reader_count;
  writers = s.writers;
  readers = set_all (λ i p z. ReaderStands net i p z) (part_of v) (part_of (arrived v received overwritten irrelevant lost heard)) d.readers r y s.readers
      (λ j ne i. part_of (arrived v (λ k. same j ne i) (λ k. over j ne i) (λ k. same' j ne i) (λ k. same'' j ne i) (λ k. same''' j ne i)) j) h;
  ledger = record { of = s.ledger.of; permits = s.ledger.permits; spare = s.ledger.spare };
  flight_count = s.flight_count;
  flights = s.flights;
  bus = s.bus;
}

-- ── a DATA
-- what a reader's cache stores is what the world stores
module _ (d : PartsState) (m : DataFor) (x y : ReaderState) (a : Arrival) (net : Network) (v : World) (known : IsNetwork net) (reached : IsReached net v) (s : Stands net v d) (fact : IsWrittenFor net v m.reader m.sample)
    (at : x ≡ get_or d.readers m.reader x) (answer : a ≡ data_arrives x m) (marks : MarksMore x y m.sample.writer (marked_by x.watching a m.sample.sn)) (samples : Stores x y m.sample a) (notes : y.proxies ≡ x.proxies) (rest : SameReader x y) (idle : OnIdle a (y ≡ x)) where
  well : Healthy net v
  well = healthy net v known reached

  within : m.reader < length d.readers
  within = at_reader net v d m.sample.writer m.reader known s fact.matched

  stands : ReaderStands net m.reader (part_of v m.reader) x
  stands = reader_at net v d m.reader x s within at

  is : a ≡ arrival_of_data net v m
  is = answer ∙ data_is net v m x stands

  abbrev new : PartsState
  new = record d { readers = set d.readers m.reader y }

  abbrev cache : Admit
  cache = admission (net.reader_limits m.reader) (stored v m.reader) (known_keys v m.reader) m.sample

  -- nothing changed
  same : (b : Arrival) → a ≡ b → OnIdle b (y ≡ x) ≡ (y ≡ x) → Stands net v new
  same b e open' = subst (λ xs. Stands net v (record d { readers = xs })) (sym (ap (set d.readers m.reader) (subst (λ (t : Type 0). t) open' (subst (λ c. OnIdle c (y ≡ x)) e idle)) ∙ set_back d.readers m.reader x within at)) s

  -- the marks, where it is known what the reader is and what it answered
  marks_of : (t : Bool) → net.watcher m.reader ≡ t → (b : Arrival) → a ≡ b → MarksMore x y m.sample.writer (marked_by t b m.sample.sn)
  marks_of t kind b e = subst (λ c. MarksMore x y m.sample.writer (marked_by c b m.sample.sn)) (stands.watching ∙ kind) (subst (λ c. MarksMore x y m.sample.writer (marked_by x.watching c m.sample.sn)) e marks)

  reliable_fresh : net.watcher m.reader ≡ false → marked v m.reader m.sample.writer m.sample.sn ≡ false → (c : Admit) → cache ≡ c → a ≡ arrival_of c → Stands net (after_data v m.reader m.sample (arrival_of c)) new
  reliable_fresh reliable fresh Stored from e =
      reader_world net v d m.reader y (store v m.reader m.sample).received v.overwritten v.irrelevant v.lost v.heard s (λ j ne. put_other v.received m.reader j _ ne) (λ j ne. refl) (λ j ne. refl) (λ j ne. refl) (λ j ne. refl)
      (store_stands net v m.reader x y stands rest m.sample well.sound fresh (marks_of false reliable New e) (subst (Stores x y m.sample) e samples) notes)
  reliable_fresh reliable fresh (Overwrote old) from e =
      let after : World = after_data v m.reader m.sample (Overwrites old) in
      reader_world net v d m.reader y after.received after.overwritten v.irrelevant v.lost v.heard s (λ j ne. put_other v.received m.reader j _ ne) (λ j ne. put_other v.overwritten m.reader j _ ne) (λ j ne. refl) (λ j ne. refl) (λ j ne. refl)
      (over_stands net v m.reader x y stands rest m.sample old known well.sound fresh from (marks_of false reliable (Overwrites old) e) (subst (Stores x y m.sample) e samples) notes)
  reliable_fresh reliable fresh (Rejected why) from e = same (arrival_of (Rejected why)) e refl

  watched_fresh : net.watcher m.reader ≡ true → marked v m.reader m.sample.writer m.sample.sn ≡ false → (c : Admit) → cache ≡ c → a ≡ arrival_of c → Stands net (after_watched v m.reader m.sample (arrival_of c)) new
  watched_fresh watches fresh Stored from e =
      let less : World = give_up v m.reader m.sample.writer m.sample.sn in
      reader_world net v d m.reader y (store less m.reader m.sample).received v.overwritten v.irrelevant less.lost v.heard s (λ j ne. put_other v.received m.reader j _ ne) (λ j ne. refl) (λ j ne. refl) (λ j ne. put_other v.lost m.reader j _ ne) (λ j ne. refl)
      (watch_stands net v m.reader x y stands rest m.sample well.sound (from_one net known v well m.reader m.sample fact) fresh (marks_of true watches New e) (subst (Stores x y m.sample) e samples) notes)
  watched_fresh watches fresh (Overwrote old) from e =
      let less : World = give_up v m.reader m.sample.writer m.sample.sn in
      let after : World = after_data less m.reader m.sample (Overwrites old) in
      reader_world net v d m.reader y after.received after.overwritten v.irrelevant after.lost v.heard s (λ j ne. put_other v.received m.reader j _ ne) (λ j ne. put_other v.overwritten m.reader j _ ne) (λ j ne. refl) (λ j ne. put_other v.lost m.reader j _ ne) (λ j ne. refl)
      (watch_over_stands net v m.reader x y stands rest m.sample old known well.sound (from_one net known v well m.reader m.sample fact) fresh from (marks_of true watches (Overwrites old) e) (subst (Stores x y m.sample) e samples) notes)
  watched_fresh watches fresh (Rejected why) from e = same (arrival_of (Rejected why)) e refl

  data_stands : (t : Bool) → net.watcher m.reader ≡ t → Stands net (cond t (after_watched v m.reader m.sample (arrival_of_data net v m)) (after_data v m.reader m.sample (arrival_of_data net v m))) new
  data_stands false e = elim (answered_is net known v well m fact) [
    | inl z ↦ subst (λ b. Stands net (after_data v m.reader m.sample b) new) (sym z) (same Repeat (is ∙ z) refl)
    | inr z ↦ subst (λ b. Stands net (after_data v m.reader m.sample b) new) (sym z.1) (reliable_fresh e z.0 cache refl (is ∙ z.1))
  ]
  data_stands true e = elim (answered_is net known v well m fact) [
    | inl z ↦ subst (λ b. Stands net (after_watched v m.reader m.sample b) new) (sym z) (same Repeat (is ∙ z) refl)
    | inr z ↦ subst (λ b. Stands net (after_watched v m.reader m.sample b) new) (sym z.1) (watched_fresh e z.0 cache refl (is ∙ z.1))
  ]

pub receive_data : (d : PartsState) (m : DataFor) (x y : ReaderState) (a : Arrival) → x ≡ get_or d.readers m.reader x → a ≡ data_arrives x m →
    MarksMore x y m.sample.writer (marked_by x.watching a m.sample.sn) → Stores x y m.sample a → y.proxies ≡ x.proxies → SameReader x y → OnIdle a (y ≡ x) →
    Receives d (Data m) (Arrived a) (record d { readers = set d.readers m.reader y })
unfolding Receives
receive_data d m x y a at answer marks samples notes rest idle net v known reached s fact = (
  ap Arrived (is d m x y a net v known reached s fact at answer marks samples notes rest idle),
  data_stands d m x y a net v known reached s fact at answer marks samples notes rest idle (net.watcher m.reader) refl,
)

-- ── what only a reliable reader heeds
-- the reader of a pair that follows stands for its part of the world
follower_at : (net : Network) (v : World) (d : PartsState) (w r : ℕ) (x : ReaderState) → IsNetwork net → Stands net v d → follows net w r ≡ true → x ≡ get_or d.readers r x → ReaderStands net r (part_of v r) x
follower_at net v d w r x known s both at = reader_at net v d r x s (at_reader net v d w r known s (and_parts (net.matched w r) (not (net.watcher r)) both).0) at

-- it marks numbers and hears of others
heeded : (net : Network) (v : World) (d : PartsState) (w r : ℕ) (y : ReaderState) (irrelevant lost : ℕ → ℕ → ℕ → Bool) (heard : ℕ → ℕ → ℕ) → Stands net v d → follows net w r ≡ true →
    ((j : ℕ) → r ≢ j → irrelevant j ≡ v.irrelevant j) → ((j : ℕ) → r ≢ j → lost j ≡ v.lost j) → ((j : ℕ) → r ≢ j → heard j ≡ v.heard j) →
    ReaderStands net r (part_of (arrived v v.received v.overwritten irrelevant lost heard) r) y → Stands net (cond (follows net w r) (arrived v v.received v.overwritten irrelevant lost heard) v) (record d { readers = set d.readers r y })
heeded net v d w r y irrelevant lost heard s both same same' same'' stands =
    subst (λ b. Stands net (cond b (arrived v v.received v.overwritten irrelevant lost heard) v) (record d { readers = set d.readers r y })) (sym both)
    (reader_world net v d r y v.received v.overwritten irrelevant lost heard s (λ j ne. refl) (λ j ne. refl) same same' same'' stands)

-- a GAP
pub receive_gap : (d : PartsState) (m : GapFor) (x y : ReaderState) (a : Arrival) → x ≡ get_or d.readers m.reader x → a ≡ gap_arrives x m →
    MarksMore x y m.writer (λ n. heeds x m.writer && covers m n) → y.proxies ≡ x.proxies → SameSamples x y → SameReader x y →
    Receives d (Gap m) (Arrived a) (record d { readers = set d.readers m.reader y })
unfolding Receives
receive_gap d m x y a at answer marks notes samples rest net v known reached s fact =
    let stands = follower_at net v d m.writer m.reader x known s fact.0 at in (
      ap Arrived (answer ∙ gap_is net v m x stands),
      heeded net v d m.writer m.reader y (after_gap v m).irrelevant v.lost v.heard s fact.0 (λ j ne. put_other v.irrelevant m.reader j _ ne) (λ j ne. refl) (λ j ne. refl) (gap_stands net v m x y stands rest fact.0 marks notes samples),
    )

-- a HEARTBEAT
pub receive_heartbeat : (d : PartsState) (m : HeartbeatFor) (x y : ReaderState) (a : Arrival) → x ≡ get_or d.readers m.reader x → a ≡ heartbeat_arrives x m →
    MarksMore x y m.writer (λ n. heeds x m.writer && below_first m.first n) → y.proxies ≡ cond x.watching x.proxies (hears m.writer m.last x.proxies) → SameSamples x y → SameReader x y →
    Receives d (Heartbeat m) (Arrived a) (record d { readers = set d.readers m.reader y })
unfolding Receives
receive_heartbeat d m x y a at answer marks notes samples rest net v known reached s fact =
    let stands = follower_at net v d m.writer m.reader x known s fact.0 at in
    let new : World = after_heartbeat v m in (
      ap Arrived (answer ∙ heartbeat_is net v m x stands),
      heeded net v d m.writer m.reader y v.irrelevant new.lost new.heard s fact.0 (λ j ne. refl) (λ j ne. put_other v.lost m.reader j _ ne) (λ j ne. put_other v.heard m.reader j _ ne) (heartbeat_stands net v m x y stands rest fact.0 marks notes samples),
    )
