-- What a rule takes and what it writes, and what that asks of counts.
use Rattle.std.specs.Prelude.{◌≡◌, ℕ, ◌+◌, ◌^◌, ◌<◌, Bool, ◌||◌, nat_lt, nat_le, List, All}
use Rattle.dds_base.specs.Grid.{most_keys}
use Rattle.dds_base.specs.declared.portion.Portion.{Portion}
use Rattle.dds_lists.specs.Lists.{Rule}
use Rattle.dds_match.specs.Network.{named}
use Rattle.dds_runs.specs.Steps.{any_entry, is_empty}

-- what a rule takes, and what it may write after that
pub record Exchange : Type 0 where
  pub takes : List (Portion ℕ)
  pub writes : List (Portion ℕ)

abbrev pub exchange_of : Rule → Exchange
exchange_of u = record { takes = u.takes; writes = u.writes }

-- a needed take is missing, or nothing is needed, where so many takes are unspent
abbrev pub lacks_takes : (ℕ → ℕ → ℕ) → List (Portion ℕ) → Bool
lacks_takes spare needs = is_empty needs || any_entry (λ e. nat_lt (spare e.endpoint e.key) (named needs e.endpoint e.key)) needs

-- with what is written a count of permits would pass 2^64 - 1, where there are so many permits
abbrev pub lacks_room : (ℕ → ℕ → ℕ) → List (Portion ℕ) → Bool
lacks_room permits gives = any_entry (λ e. nat_le (2 ^ 64) (permits e.endpoint e.key + named gives e.endpoint e.key)) gives

-- the portion's endpoint and key have a place in a table of so many endpoints
abbrev pub HasPlace : ℕ → Portion ℕ → Type 0
HasPlace endpoints e = (e.endpoint < endpoints) × (e.key < most_keys)

-- no other element of the list names the endpoint and key of the portion
abbrev pub IsAlone : List (Portion ℕ) → Portion ℕ → Type 0
IsAlone es e = named es e.endpoint e.key ≡ e.count

-- each element has a place in a table of so many endpoints, and is alone there
pub record IsPlaced (endpoints : ℕ) (es : List (Portion ℕ)) : Type 0 where
  pub places : All (HasPlace endpoints) es
  pub alone : All (IsAlone es) es

-- both sides have places in tables of so many writers and readers
pub record IsExchange (writers readers : ℕ) (x : Exchange) : Type 0 where
  pub takes : IsPlaced readers x.takes
  pub writes : IsPlaced writers x.writes
