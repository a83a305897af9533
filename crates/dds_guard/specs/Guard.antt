-- A guard, as its callers see it: the ledger, and what it keeps of the deployment for its application.
use Rattle.std.specs.Prelude.{◌≡◌, ℕ, ◌≤◌, Bool, false, ◌==◌, if◌then◌else◌, List, [], All, length, map, Option, Some, None, position, slice_get, unwrap_or}
use Rattle.std.specs.List.{range_with_len}
use Rattle.std.specs.Option.{option_map_or}
use Rattle.dds_base.specs.Names.{number_of}
use Rattle.dds_base.specs.declared.portion.Portion.{Portion}
use Rattle.dds_lists.specs.declared.lists.Origin.{Origin}
use Rattle.dds_lists.specs.Lists.{Lists, has, keys_at, readers_at}
use Rattle.dds_lists.specs.WellFormed.{filter_at}
use Rattle.dds_match.specs.Plan.{rule_of}
use Rattle.dds_rules.specs.Counts.{count_at}
use Rattle.dds_rules.specs.Exchange.{Exchange, IsAlone}
use Rattle.dds_rules.specs.Ledger.{LedgerState, exchange_at}
use Rattle.dds_guard.specs.declared.account.Payment.{Payment}
use Rattle.dds_guard.specs.Account.{left}

-- entry: the number of the rule's name; own: it is the application's
pub record RuleState : Type 0 where
  pub entry : ℕ
  pub own : Bool
  pub free : Bool
  pub takes : List (Portion ℕ)
  pub writes : List (Portion ℕ)

-- keys: those of each topic
pub record NameLists : Type 0 where
  pub writers : List (List ℕ)
  pub readers : List (List ℕ)
  pub rules : List (List ℕ)
  pub topics : List (List ℕ)
  pub keys : List (List (List ℕ))

-- held: the permit that the last paid write used, which the ledger still has; writers: the application's; filters: by reader, the keys that the application
-- takes there
pub record GuardState : Type 0 where
  pub ledger : LedgerState
  pub held : Option Payment
  pub writers : List ℕ
  pub filters : List (List ℕ)
  pub rules : List RuleState
  pub names : NameLists

-- ── what is kept of a deployment
-- the number of the name that a rule has in the file
abbrev pub entry_of : Lists → ℕ → ℕ
entry_of d u = option_map_or (λ (o : Origin). o.name) (slice_get d.rules.origins u) 0

abbrev pub rule_state : Lists → ℕ → ℕ → RuleState
rule_state d a u = record { entry = entry_of d u; own = (rule_of d u).application == a; free = (rule_of d u).free; takes = (rule_of d u).takes; writes = (rule_of d u).writes }

abbrev pub rules_of : Lists → ℕ → List RuleState
rules_of d a = map (rule_state d a) (range_with_len 0 (length d.rules.entries))

-- the filter of a reader that is the application's, nothing at any other
abbrev pub own_filter : Lists → ℕ → ℕ → List ℕ
own_filter d a r = if has (readers_at d.applications a) r then filter_at d.readers r else []

abbrev pub filters_of : Lists → ℕ → List (List ℕ)
filters_of d a = map (own_filter d a) (range_with_len 0 (length d.readers.entries))

abbrev pub all_keys_of : Lists → List (List (List ℕ))
all_keys_of d = map (keys_at d.topics) (range_with_len 0 (length d.topics.entries))

abbrev pub names_of : Lists → NameLists
names_of d = record { writers = d.writers.names; readers = d.readers.names; rules = d.rules.names; topics = d.topics.names; keys = all_keys_of d }

-- ── questions
-- what stands for a rule that is not there
abbrev pub no_rule_state : RuleState
no_rule_state = record { entry = 0; own = false; free = false; takes = []; writes = [] }

abbrev pub rule_at : List RuleState → ℕ → RuleState
rule_at us u = unwrap_or (slice_get us u) no_rule_state

-- the application takes the key at the reader
abbrev pub takes_key : GuardState → ℕ → ℕ → Bool
takes_key g r k = has (unwrap_or (slice_get g.filters r) []) k

-- the place of the first rule whose name has the number, where there is one
abbrev pub rule_of_entry : List RuleState → Option ℕ → Option ℕ
rule_of_entry us None = None
rule_of_entry us (Some n) = position (λ (u : RuleState). u.entry == n) us

-- the number of the first rule of this name
abbrev pub rule_number : GuardState → List ℕ → Option ℕ
rule_number g name = rule_of_entry g.rules (number_of g.names.rules name)

-- the number of the key of this name in the topic
abbrev pub key_number : GuardState → ℕ → List ℕ → Option ℕ
key_number g t name = number_of (unwrap_or (slice_get g.names.keys t) []) name

-- the permits that are left
abbrev pub permits_of : GuardState → ℕ → ℕ → ℕ
permits_of g w k = left (record { ledger = g.ledger; held = g.held }) w k

-- how many permits are left at a writer that is the application's
abbrev pub permits_at : GuardState → ℕ → ℕ → Option ℕ
permits_at g w k = if has g.writers w then Some (permits_of g w k) else None

-- how many takes are unspent of a key that the application takes
abbrev pub spare_at : GuardState → ℕ → ℕ → Option ℕ
spare_at g r k = if takes_key g r k then Some (count_at g.ledger.spare r k) else None

-- ── what every guard keeps
-- a count of each element of a rule's list
abbrev pub AreCounted : List (Portion ℕ) → Type 0
AreCounted es = All (λ (e : Portion ℕ). 1 ≤ e.count) es

abbrev pub exchange_in : RuleState → Exchange
exchange_in u = record { takes = u.takes; writes = u.writes }

-- the ledger has the rules that are kept, and no rule names a pair twice or counts none of one
pub record IsSound (g : GuardState) : Type 0 where
  pub filters : length g.filters ≡ g.ledger.spare.endpoints
  pub rules : (u : ℕ) → exchange_at g.ledger u ≡ exchange_in (rule_at g.rules u)
  pub takes_alone : All (λ (u : RuleState). All (IsAlone u.takes) u.takes) g.rules
  pub writes_alone : All (λ (u : RuleState). All (IsAlone u.writes) u.writes) g.rules
  pub counted : All (λ (u : RuleState). AreCounted u.writes) g.rules

-- the same guard with another ledger
abbrev pub with_ledger : GuardState → LedgerState → GuardState
with_ledger g l = record g { ledger = l }
