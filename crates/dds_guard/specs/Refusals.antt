-- What a guard answers, and why it refuses.
use Rattle.std.specs.Prelude.{◌≡◌, ℕ, ◌^◌, ◌-◌, ◌<◌, ◌≤◌, ◌+◌, Bool, true, false, not, ◌&&◌, if◌then◌else◌, nat_lt, List, Option, Some, None, option_map, Result, Ok, Err, position}
use Rattle.std.specs.List.{list_any}
use Rattle.dds_base.specs.Grid.{most_keys}
use Rattle.dds_lists.specs.Lists.{has}
use Rattle.dds_match.specs.Network.{is_named, named}
use Rattle.dds_rules.specs.Counts.{IsMoreBy, count_at, only_at}
use Rattle.dds_rules.specs.Exchange.{lacks_takes, lacks_room}
use Rattle.dds_rules.specs.Ledger.{LedgerState, KeepsPlan, exchange_at, fire_refusal}
use Rattle.dds_rules.specs.declared.refused.FireRefused.{FireRefused}
use Rattle.dds_rules.specs.declared.refused.FireRefused.TheVariants as ledger
use Rattle.dds_guard.specs.declared.refused.FiringRefused.{FiringRefused}
use Rattle.dds_guard.specs.declared.refused.FiringRefused.TheVariants as firing
use Rattle.dds_guard.specs.declared.refused.TakeRefused.{TakeRefused}
use Rattle.dds_guard.specs.declared.refused.TakeRefused.TheVariants as taking
use Rattle.dds_guard.specs.declared.refused.WriteRefused.{WriteRefused}
use Rattle.dds_guard.specs.declared.refused.WriteRefused.TheVariants as writing
use Rattle.dds_guard.specs.declared.writing.Way.{Way}
use Rattle.dds_guard.specs.declared.writing.Way.TheVariants.{Free, Permit, Rule}
use Rattle.dds_guard.specs.declared.refused.UndoRefused.{UndoRefused}
use Rattle.dds_guard.specs.declared.refused.UndoRefused.TheVariants as undoing
use Rattle.dds_guard.specs.Account.{is_held, payment}
use Rattle.dds_guard.specs.Guard.{GuardState, RuleState, permits_of, rule_at, takes_key, with_ledger}

-- ── takes
-- why a take isn't counted, the first reason
abbrev pub take_refusal : GuardState → ℕ → ℕ → Option TakeRefused
take_refusal g r k =
    if not (takes_key g r k && nat_lt k most_keys) then Some taking.Foreign else
    (if nat_lt (count_at g.ledger.spare r k) (2 ^ 64 - 1) then None else Some taking.CountLimit)

-- ── firings
abbrev pub firing_refused : FireRefused → FiringRefused
firing_refused ledger.NotEnough = firing.NotEnough
firing_refused ledger.CountLimit = firing.CountLimit

-- why a rule isn't fired, the first reason
abbrev pub firing_refusal : GuardState → ℕ → Option FiringRefused
firing_refusal g u = if (rule_at g.rules u).own then option_map firing_refused (fire_refusal g.ledger u) else Some firing.Foreign

-- ── writes
-- some free rule names the writer and the key
abbrev pub is_free : List RuleState → ℕ → ℕ → Bool
is_free us w k = list_any (λ (u : RuleState). u.free && is_named u.writes w k) us

-- the rule lacks neither takes nor room
abbrev pub can_fire : LedgerState → RuleState → Bool
can_fire l u = not (lacks_takes (count_at l.spare) u.takes) && not (lacks_room (count_at l.permits) u.writes)

-- the rule is the application's, gives a permit for the key at the writer, and can be fired
abbrev pub serves : LedgerState → ℕ → ℕ → RuleState → Bool
serves l w k u = u.own && (is_named u.writes w k && can_fire l u)

-- the first such rule
abbrev pub serving : GuardState → ℕ → ℕ → Option ℕ
serving g w k = position (serves g.ledger w k) g.rules

-- the rule can be fired, and then gives a permit for the key at the writer
pub record IsServing (g : GuardState) (w k u : ℕ) : Type 0 where
  pub fires : fire_refusal g.ledger u ≡ None
  pub gives : 1 ≤ named (exchange_at g.ledger u).writes w k

abbrev pub way_by : Option ℕ → Result Way WriteRefused
way_by None = Err writing.NoPermit
way_by (Some u) = Ok (Rule u)

-- how a sample may be written, or why not: freely, with a permit that is there, or with one that a rule gives
abbrev pub way_of : GuardState → ℕ → ℕ → Result Way WriteRefused
way_of g w k =
    if not (has g.writers w) then Err writing.Foreign else
    (if is_free g.rules w k then Ok Free else
    (if nat_lt 0 (permits_of g w k) then Ok Permit else way_by (serving g w k)))

-- what a way of writing rests on
abbrev pub IsReady : GuardState → ℕ → ℕ → Way → Type 0
IsReady g w k Free = Unit {0}
IsReady g w k Permit = 0 < permits_of g w k
IsReady g w k (Rule u) = IsServing g w k u

-- why a write isn't taken back, the first reason. A free write used nothing; any other has to be the last one that used a permit
abbrev pub undo_refusal : GuardState → ℕ → ℕ → Option UndoRefused
undo_refusal g w k =
    if not (has g.writers w) then Some undoing.Foreign else
    (if is_free g.rules w k then None else (if is_held g.held w k then None else Some undoing.NotWritten))

-- ── what calls change
-- one take more at the reader and key
pub record IsTaken (r k : ℕ) (old new : GuardState) : Type 0 where
  pub spare : IsMoreBy (only_at r k 1) old.ledger.spare new.ledger.spare
  pub permits : new.ledger.permits ≡ old.ledger.permits
  pub plan : KeepsPlan old.ledger new.ledger
  pub rest : new ≡ with_ledger old new.ledger

-- what the rule takes is spent, and what it writes is permitted
pub record IsFired (u : ℕ) (old new : GuardState) : Type 0 where
  pub spare : IsMoreBy (named (exchange_at old.ledger u).takes) new.ledger.spare old.ledger.spare
  pub permits : (w k : ℕ) → permits_of new w k ≡ permits_of old w k + named (exchange_at old.ledger u).writes w k
  pub plan : KeepsPlan old.ledger new.ledger
  pub rest : new ≡ with_ledger old new.ledger

-- one permit fewer, which is held
pub record IsPaid (w k : ℕ) (old new : GuardState) : Type 0 where
  pub permits : (i l : ℕ) → permits_of old i l ≡ permits_of new i l + only_at w k 1 i l
  pub spare : new.ledger.spare ≡ old.ledger.spare
  pub plan : KeepsPlan old.ledger new.ledger
  pub held : new.held ≡ Some (payment w k)
  pub rest : new ≡ record old { ledger = new.ledger; held = new.held }

-- the rule is fired and one permit is used
pub record IsServed (u w k : ℕ) (old new : GuardState) : Type 0 where
  pub between : GuardState
  pub fires : fire_refusal old.ledger u ≡ None
  pub fired : IsFired u old between
  pub paid : IsPaid w k between new

-- what a write in this way changes
abbrev pub IsWritten : Result Way WriteRefused → ℕ → ℕ → GuardState → GuardState → Type 0
IsWritten (Ok Free) w k old new = new ≡ old
IsWritten (Ok Permit) w k old new = IsPaid w k old new
IsWritten (Ok (Rule u)) w k old new = IsServed u w k old new
IsWritten (Err e) w k old new = new ≡ old

-- a write that was free or paid is taken back: the guard that comes of it is the one that the permit was used in, and no write of it can be taken back
abbrev pub IsTakenBack : Bool → ℕ → ℕ → GuardState → GuardState → Type 0
IsTakenBack true w k old new = new ≡ old
IsTakenBack false w k old new = IsPaid w k new old × (new ≡ record old { held = None })
