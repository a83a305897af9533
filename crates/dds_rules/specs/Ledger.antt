-- A rule ledger, as its callers see it: permits, unspent takes, and what each rule takes and writes.
use Rattle.std.specs.Prelude.{◌≡◌, ℕ, if◌then◌else◌, List, [], All, length, Option, Some, None, slice_get, unwrap_or}
use Rattle.dds_match.specs.Network.{Network}
use Rattle.dds_rules.specs.declared.refused.FireRefused.{FireRefused}
use Rattle.dds_rules.specs.declared.refused.FireRefused.TheVariants.{NotEnough, CountLimit}
use Rattle.dds_rules.specs.Counts.{CountTable, count_at}
use Rattle.dds_rules.specs.Exchange.{Exchange, IsExchange, exchange_of, lacks_takes, lacks_room}

-- rules: what each takes and writes; permits: by writer and key; spare: the unspent takes by reader and key
pub record LedgerState : Type 0 where
  pub rules : List Exchange
  pub permits : CountTable
  pub spare : CountTable

-- what stands for a rule that is not there: it takes and writes nothing
abbrev pub no_exchange : Exchange
no_exchange = record { takes = []; writes = [] }

-- what the rule with this number takes and writes
abbrev pub exchange_at : LedgerState → ℕ → Exchange
exchange_at s u = unwrap_or (slice_get s.rules u) no_exchange

-- why a rule is not fired, the first reason
abbrev pub fire_refusal : LedgerState → ℕ → Option FireRefused
fire_refusal s u =
    if lacks_takes (count_at s.spare) (exchange_at s u).takes then Some NotEnough else
    (if lacks_room (count_at s.permits) (exchange_at s u).writes then Some CountLimit else None)

-- each rule's elements have places in the tables, each its own
abbrev pub IsSound : LedgerState → Type 0
IsSound s = All (IsExchange s.permits.endpoints s.spare.endpoints) s.rules

-- the ledger has the rules of the network, and a row for each writer and each reader
pub record IsLedgerOf (net : Network) (s : LedgerState) : Type 0 where
  pub writers : s.permits.endpoints ≡ net.writers
  pub readers : s.spare.endpoints ≡ net.readers
  pub count : length s.rules ≡ net.rules
  pub rules : (u : ℕ) → exchange_at s u ≡ exchange_of (net.rule u)

-- the rules and the sizes of the tables are the same
pub record KeepsPlan (old new : LedgerState) : Type 0 where
  pub rules : new.rules ≡ old.rules
  pub writers : new.permits.endpoints ≡ old.permits.endpoints
  pub readers : new.spare.endpoints ≡ old.spare.endpoints
