-- An application takes a sample.
use Rattle.std.proofs.Common.{◌≡◌, ℕ, ◌-◌, ◌<◌, ◌≤◌, ◌^◌, Bool, true, false, cond, List, [], ◌∷◌, ◌++◌, Some, None, length, map, get_or, set, refl, sym, ap, subst, ◌∙◌, arith, length-set}
use Rattle.std.proofs.lemmas.Bool.{le-leb, lt-leb, eqb-true, and_parts}
use Rattle.dds_base.specs.Sums.{In}
use Rattle.dds_base.specs.declared.sample.Sample.{Sample}
use Rattle.dds_base.specs.declared.events.Event.TheVariants.{Take}
use Rattle.dds_base.specs.declared.events.Reply.TheVariants.{Refused, Took}
use Rattle.dds_base.specs.declared.events.Refusal.TheVariants.{Foreign, CountLimit, Empty}
use Rattle.dds_base.proofs.SumLaws.{put_other}
use Rattle.dds_qos.specs.Samples.{has_key, without}
use Rattle.dds_qos.specs.Taking.{IsLeastOfWriter}
use Rattle.dds_match.specs.Network.{Network, IsNetwork}
use Rattle.dds_match.specs.Plan.{network_of}
use Rattle.dds_runs.specs.CountRuns.CountMove.{Takes}
use Rattle.dds_runs.specs.World.{World, spare, stored, is_stored, taken_from}
use Rattle.dds_runs.specs.Steps.{refusal, is_empty, is_available, available as available_at}
use Rattle.dds_runs.proofs.Moves.{Healthy}
use Rattle.dds_runs.proofs.StoredPlaces.{filter_in}
use Rattle.dds_runs.proofs.CountsWeights.{after_take}
use Rattle.dds_rules.specs.Counts.{count_at}
use Rattle.dds_rules.specs.Ledger.{LedgerState}
use Rattle.dds_rules.specs.Standing.{Makes}
use Rattle.dds_flights.specs.Flight.{FlightState}
use Rattle.dds_flights.specs.Flight.{after_take as after_flight}
use Rattle.dds_flights.specs.Standing.{FlightsStand}
use Rattle.dds_flights.proofs.Laws.{flies_on_take, took_elsewhere}
use Rattle.dds_reader.specs.Reader.{ReaderState, available, SameMarks, SameReader}
use Rattle.dds_domain.specs.Standing.{PartsState, HasWorld, ReaderStands, Stands, StepsWorld, flights_of, flights_taken, part_of}
use Rattle.dds_domain.proofs.NotesKept.{take_kept}
use Rattle.dds_domain.proofs.Slots.{lent_at, lent_back, set_all}
use Rattle.dds_domain.proofs.Steps.{Steps, refused_as, steps_as}
use Rattle.dds_domain.proofs.Worlds.{healthy, may, reader_at, refused}
use Rattle.dds_domain.proofs.Readers.{available_is, take_stands}

-- the plan's filters are the network's
heard : (net : Network) (v : World) (d : PartsState) (r k : ℕ) (b : Bool) → Stands net v d → (network_of d.plan).hears r k ≡ b → net.hears r k ≡ b
heard net v d r k b s h = sym (ap (λ (n : Network). n.hears r k) s.plan) ∙ h

-- a reader that hears a key is there
within : (net : Network) (v : World) (d : PartsState) (r k : ℕ) → IsNetwork net → Stands net v d → (network_of d.plan).hears r k ≡ true → r < length d.readers
within net v d r k known s h = let below = known.heard_reader r k (heard net v d r k true s h) in let count = s.reader_count in omega arith

module _ (d : PartsState) (r k : ℕ) where
  -- the key is none of the reader's
  pub take_foreign : (network_of d.plan).hears r k ≡ false → StepsWorld d (Take r k) (Refused Foreign) d
  unfolding StepsWorld
  take_foreign f net v known reached s = refused net v d (Take r k) Foreign (rw (heard net v d r k false s f) refl) s

  module _ (hears : (network_of d.plan).hears r k ≡ true) where
    -- the reader and the key are the plan's
    pub take_reader : HasWorld d → r < length d.readers
    take_reader (net, v, (known, reached, s)) = within net v d r k known s hears

    pub take_row : HasWorld d → r < d.ledger.spare.endpoints
    take_row (net, v, (known, reached, s)) = let below = known.heard_reader r k (heard net v d r k true s hears) in let count = s.ledger.of.readers in omega arith

    pub take_key : HasWorld d → k < 64
    take_key (net, v, (known, reached, s)) = subst (λ (n : Network). k < n.keys) (sym s.plan) (known.heard_key r k (heard net v d r k true s hears))

    -- 2^64 - 1 takes are unspent
    pub take_limit : 2 ^ 64 - 1 ≤ count_at d.ledger.spare r k → StepsWorld d (Take r k) (Refused CountLimit) d
    unfolding StepsWorld
    take_limit full net v known reached s =
        let same = s.ledger.spare r k in
        refused net v d (Take r k) CountLimit (rw (heard net v d r k true s hears, le-leb (2 ^ 64 - 1) (spare net v r k) (omega arith)) refl) s

    module _ (room : count_at d.ledger.spare r k < 2 ^ 64 - 1) (x y : ReaderState) (at : x ≡ get_or d.readers r x) where
      -- the tests before the last one
      passed : (net : Network) (v : World) → Stands net v d → (b : Bool) → is_empty (available_at v r k) ≡ b → refusal net v (Take r k) ≡ cond b (Some Empty) None
      passed net v s b e =
          let same = s.ledger.spare r k in
          rw (heard net v d r k true s hears, lt-leb (2 ^ 64 - 1) (spare net v r k) (omega arith), e) refl

      -- the reader before the take
      stands : (net : Network) (v : World) → IsNetwork net → Stands net v d → ReaderStands net r (part_of v r) x
      stands net v known s = reader_at net v d r x s (within net v d r k known s hears) at

      -- nothing is available
      pub take_empty : available x k ≡ [] → StepsWorld d (Take r k) (Refused Empty) d
      unfolding StepsWorld
      take_empty none net v known reached s =
          let empty : is_empty (available_at v r k) ≡ true = ap is_empty (sym (available_is net v r x (stands net v known s) k) ∙ none) in
          refused net v d (Take r k) Empty (passed net v s true empty) s

      -- a sample is taken
      pub take_done : (t : Sample) (l : LedgerState) → IsLeastOfWriter t (available x k) → y.stored ≡ without t x.stored → y.keys ≡ x.keys → SameMarks x y → y.proxies ≡ x.proxies → SameReader x y →
          ((u : Sample) → u.key ≡ k → Makes (Takes r u) d.ledger l) → StepsWorld d (Take r k) (Took t) (record d { readers = set d.readers r y; ledger = l; flights = flights_taken d.flights t.writer r k })
      unfolding StepsWorld
      take_done t l least fewer keys marks notes rest makes net v known reached s = (
        may net v (Take r k) (Took t) (passed net v s false some) (t, least', refl),
        record {
          plan = s.plan;
          writer_count = s.writer_count;
          reader_count = length-set d.readers r y ∙ s.reader_count;
          writers = s.writers;
          readers = set_all (λ i p z. ReaderStands net i p z) (part_of v) (part_of (after_take v r t)) d.readers r y s.readers
              (λ j ne i. part_of (record v { taken = λ q. put_other v.taken r j (v.taken r ++ t ∷ []) ne i }) j)
              (take_stands net v r x y (stands net v known s) rest t well.sound fewer keys marks notes);
          ledger = makes t key_is net v known well.sound.counts s.ledger;
          flight_count = length-set d.flights t.writer (map (after_flight r k) (flights_of d.flights t.writer)) ∙ s.flight_count;
          flights = set_all (λ i (T : ℕ → ℕ → ℕ) fs. FlightsStand net i (v.written i) T fs) (taken_from v) (taken_from (after_take v r t)) d.flights t.writer (map (after_flight r k) (flights_of d.flights t.writer)) s.flights
              (λ j ne. took_elsewhere v r t j ne)
              (subst (λ l. FlightsStand net t.writer (v.written t.writer) (taken_from (after_take v r t) t.writer) (map (after_flight r l) (flights_of d.flights t.writer))) key_is
              (flies_on_take net v r t (flights_of d.flights t.writer) (s.flights t.writer [] writer_is)));
          bus = s.bus;
        },
      )
        where
          well : Healthy net v
          well = healthy net v known reached

          least' : IsLeastOfWriter t (available_at v r k)
          least' = subst (IsLeastOfWriter t) (available_is net v r x (stands net v known s) k) least

          among : In t (stored v r) × (is_available v r k t ≡ true)
          among = filter_in (is_available v r k) (stored v r) t least'.among

          -- the flights of its writer are there
          writer_is : t.writer < length d.flights
          writer_is =
              let below = known.matched_writer t.writer r (well.sound.samples r t (filter_in (is_stored v r) (v.received r) t among.0).0).matched in
              let count = s.flight_count in
              omega arith

          key_is : t.key ≡ k
          key_is = eqb-true t.key k (and_parts (has_key k t) _ among.1).0

          some : is_empty (available_at v r k) ≡ false
          some = go (available_at v r k) least'.among
            where
              go : (ss : List Sample) → In t ss → is_empty ss ≡ false
              go [] i = absurd i
              go (u ∷ us) i = refl

-- ── as code takes: the reader is borrowed by its number, and the parts go by other names
module _ (d old : PartsState) (r k i : ℕ) (x y : ReaderState) (olds : d ≡ old) (stood : HasWorld old) (hears : (network_of d.plan).hears r k ≡ true) (room : count_at d.ledger.spare r k < 2 ^ 64 - 1) (number : i ≡ r) (item : x ≡ get_or d.readers i x) where
  borrowed : x ≡ get_or d.readers r x
  borrowed = lent_at d.readers r i x number item

  below : r < length d.readers
  below = take_reader d r k hears (subst HasWorld (sym olds) stood)

  pub takes_none : available x k ≡ [] → y ≡ x → Steps (Take r k) old (Refused Empty) (record d { readers = set d.readers i y })
  takes_none none same = refused_as (Take r k) Empty d old _ olds (λ j. record d { readers = lent_back d.readers r i x y number item below same j }) (take_empty d r k hears room x y borrowed none)

  pub takes_one : (t : Sample) (l : LedgerState) (fs : List (List FlightState)) → IsLeastOfWriter t (available x k) → y.stored ≡ without t x.stored → y.keys ≡ x.keys → SameMarks x y → y.proxies ≡ x.proxies → SameReader x y →
      ((u : Sample) → u.key ≡ k → Makes (Takes r u) d.ledger l) → fs ≡ flights_taken d.flights t.writer r k
      → Steps (Take r k) old (Took t) (record d { readers = set d.readers i y; ledger = l; flights = fs })
  takes_one t l fs least fewer keys marks notes rest makes flown =
      steps_as (Take r k) d old (Took t) (Took t) _ _ olds refl (λ j. record d { readers = set d.readers (number j) y; ledger = l; flights = flown j })
      (take_done d r k hears room x y borrowed t l least fewer keys marks notes rest makes, take_kept d r k t x y l (flights_taken d.flights t.writer r k) below borrowed rest.watching notes)
