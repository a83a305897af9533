-- The ledger of a guard, and the permit that its last write used.
use Rattle.std.specs.Prelude.{◌≡◌, ℕ, ◌+◌, ◌-◌, ◌<◌, Bool, false, ◌==◌, ◌&&◌, if◌then◌else◌, Option, Some, None}
use Rattle.dds_rules.specs.Counts.{CountTable, count_at, only_at}
use Rattle.dds_rules.specs.Ledger.{LedgerState, KeepsPlan}
use Rattle.dds_guard.specs.declared.account.Payment.{Payment}

abbrev pub payment : (writer key : ℕ) → Payment
payment w k = record { writer = w; key = k }

-- held: the permit that the last paid write used, which the ledger still has
pub record AccountState : Type 0 where
  pub ledger : LedgerState
  pub held : Option Payment

-- the held permit is one for the key at the writer
abbrev pub is_held : Option Payment → ℕ → ℕ → Bool
is_held None w k = false
is_held (Some p) w k = (p.writer == w) && (p.key == k)

-- how many permits for the key at the writer are held, 0 or 1
abbrev pub used_by : Option Payment → ℕ → ℕ → ℕ
used_by held w k = if is_held held w k then 1 else 0

-- the permits that are left
abbrev pub left : AccountState → ℕ → ℕ → ℕ
left a w k = count_at a.ledger.permits w k - used_by a.held w k

-- the ledger has the permit that is held
abbrev pub IsBacked : CountTable → Option Payment → Type 0
IsBacked permits None = Unit {0}
IsBacked permits (Some p) = 0 < count_at permits p.writer p.key

-- one permit fewer, which is held
pub record IsCharged (w k : ℕ) (old new : AccountState) : Type 0 where
  pub permits : (i l : ℕ) → left old i l ≡ left new i l + only_at w k 1 i l
  pub spare : new.ledger.spare ≡ old.ledger.spare
  pub plan : KeepsPlan old.ledger new.ledger
  pub held : new.held ≡ Some (payment w k)
