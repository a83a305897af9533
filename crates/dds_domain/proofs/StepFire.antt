-- A rule fires.
use Rattle.std.proofs.Common.{◌≡◌, ℕ, ◌<◌, ◌≤◌, Bool, true, false, cond, length, Option, Some, None, refl, sym, ap, ◌∙◌, arith}
use Rattle.std.specs.Option.{option_map}
use Rattle.std.proofs.lemmas.Bool.{le-leb, lt-leb}
use Rattle.dds_base.specs.declared.events.Event.TheVariants.{Fire}
use Rattle.dds_base.specs.declared.events.Reply.TheVariants.{Refused, Fired}
use Rattle.dds_base.specs.declared.events.Refusal.TheVariants.{Foreign, NotEnough, CountLimit}
use Rattle.dds_match.specs.Network.{Network}
use Rattle.dds_runs.specs.World.{World}
use Rattle.dds_runs.specs.Steps.{Refusal, refusal, fire_passes_limit}
use Rattle.dds_runs.specs.CountRuns.CountMove.{Fires}
use Rattle.dds_rules.specs.declared.refused.FireRefused.{FireRefused}
use Rattle.dds_rules.specs.declared.refused.FireRefused.TheVariants.{NotEnough as TooFew, CountLimit as TooMany}
use Rattle.dds_rules.specs.Counts.{count_at}
use Rattle.dds_rules.specs.Exchange.{lacks_takes, lacks_room}
use Rattle.dds_rules.specs.Ledger.{LedgerState, exchange_at, fire_refusal}
use Rattle.dds_rules.specs.Standing.{StandsFor, Makes}
use Rattle.dds_rules.proofs.Worlds.{same_lack_of_takes, same_lack_of_room}
use Rattle.dds_domain.specs.Standing.{PartsState, Stands, StepsWorld}
use Rattle.dds_domain.proofs.Worlds.{healthy, refused, may}

-- the refusal that the ledger's tells
abbrev pub told : FireRefused → Refusal
told TooFew = NotEnough
told TooMany = CountLimit

-- the refusal of a rule that is there
abbrev first_of : Bool → Bool → Option Refusal
first_of a b = cond a (Some NotEnough) (cond b (Some CountLimit) None)

-- the ledger refuses as the world does
refusal_is : (net : Network) (v : World) (l : LedgerState) (u : ℕ) → u < net.rules → StandsFor net v l → refusal net v (Fire u) ≡ option_map told (fire_refusal l u)
refusal_is net v l u there stands =
    let takes = same_lack_of_takes net v l u stands in
    let room = same_lack_of_room net v l u stands in
    rw (lt-leb net.rules u there)
    (ap (λ t. first_of t (fire_passes_limit net v (net.rule u))) (sym takes)
    ∙ ap (λ t. first_of (lacks_takes (count_at l.spare) (exchange_at l u).takes) t) (sym room)
    ∙ same (lacks_takes (count_at l.spare) (exchange_at l u).takes) (lacks_room (count_at l.permits) (exchange_at l u).writes))
  where
    same : (a b : Bool) → first_of a b ≡ option_map told (cond a (Some TooFew) (cond b (Some TooMany) None))
    same true b = refl
    same false true = refl
    same false false = refl

module _ (d : PartsState) (u : ℕ) where
  pub fire_foreign : length d.plan.rules.entries ≤ u → StepsWorld d (Fire u) (Refused Foreign) d
  unfolding StepsWorld
  fire_foreign past net v known reached s =
      let count : length d.plan.rules.entries ≡ net.rules = ap (λ (n : Network). n.rules) s.plan in
      refused net v d (Fire u) Foreign (rw (le-leb net.rules u (omega arith)) refl) s

  module _ (there : u < length d.plan.rules.entries) where
    -- what the world answers, by what the ledger does
    answer : (net : Network) (v : World) → Stands net v d → refusal net v (Fire u) ≡ option_map told (fire_refusal d.ledger u)
    answer net v s =
        let count : length d.plan.rules.entries ≡ net.rules = ap (λ (n : Network). n.rules) s.plan in
        refusal_is net v d.ledger u (omega arith) s.ledger

    pub fire_refused : (why : FireRefused) → fire_refusal d.ledger u ≡ Some why → StepsWorld d (Fire u) (Refused (told why)) d
    unfolding StepsWorld
    fire_refused why e net v known reached s = refused net v d (Fire u) (told why) (answer net v s ∙ ap (option_map told) e) s

    pub fire_done : fire_refusal d.ledger u ≡ None → (l : LedgerState) → Makes (Fires u) d.ledger l → StepsWorld d (Fire u) Fired (record d { ledger = l })
    unfolding StepsWorld
    fire_done e l makes net v known reached s = (
      may net v (Fire u) Fired (answer net v s ∙ ap (option_map told) e) refl,
      record {
        plan = s.plan;
        writer_count = s.writer_count;
        reader_count = s.reader_count;
        writers = s.writers;
        readers = s.readers;
        ledger = makes net v known (healthy net v known reached).sound.counts s.ledger;
        flight_count = s.flight_count;
        flights = s.flights;
        bus = s.bus;
      },
    )
