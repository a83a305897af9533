-- Fields in nanoseconds: the pace of a rule, and how soon a reader takes.
use Rattle.std.specs.Prelude.{codes, ℕ, Bool, List, Option, Some, None, Ok, is_some, is_none, unwrap_or, ◌||◌}
use Rattle.toml.specs.Data.{Data, Members, get_member}
use Rattle.dds_fields.specs.declared.fault.FaultKind.TheVariants.{MissingKey}
use Rattle.dds_fields.specs.Paths.{key_path}
use Rattle.dds_fields.specs.Reading.{◌>>=◌, Read, unless, a_number, optional}
use Rattle.dds_lists.specs.declared.lists.Pace.{Pace}
use Rattle.dds_lists.specs.WellFormed.{most_nanoseconds}
use Rattle.dds_deploy.specs.Starts.{start_field}

-- nanoseconds in a range
unfoldable pub nanoseconds : (low high : ℕ) → List ℕ → Data → Read (Option ℕ)
nanoseconds low high path d = do
  n ← a_number low high path d
  Ok (Some n)

-- the nanoseconds at a key, none where it is absent
unfoldable pub optional_nanoseconds : (low high : ℕ) → List ℕ → List ℕ → Members → Read (Option ℕ)
optional_nanoseconds low high key path ms = optional key None (nanoseconds low high) path ms

-- the same, where the key has to be there if the other is
unfoldable pub nanoseconds_before : (other : List ℕ) → (low : ℕ) → List ℕ → List ℕ → Members → Read (Option ℕ)
nanoseconds_before other low key path ms = do
  n ← optional_nanoseconds low most_nanoseconds key path ms
  unless MissingKey (key_path path key) (is_some n || is_none (get_member other ms)) n

-- a pace of this period and jitter, none without a period
abbrev pub pace_of : Option ℕ → ℕ → Option Pace
pace_of None jitter = None
pace_of (Some period) jitter = Some (record { period = period; jitter = jitter })

-- the pace of a rule. One with a jitter has a period
unfoldable pub pace : List ℕ → Members → Read (Option Pace)
pace path ms = do
  period ← nanoseconds_before (codes "jitter") 1 (codes "period") path ms
  jitter ← optional_nanoseconds 0 most_nanoseconds (codes "jitter") path ms
  Ok (pace_of period (unwrap_or jitter 0))

-- how often a rule may write: at the opening, and by the clock
unfoldable pub how_often : ℕ → (takes_nothing : Bool) → List ℕ → Members → Read (Option ℕ × Option Pace)
how_often v takes_nothing path ms = do
  start ← start_field v takes_nothing path ms
  by_clock ← pace path ms
  Ok (start, by_clock)

-- how soon a reader takes, and how soon it can, which is no later
unfoldable pub spans : List ℕ → Members → Read (Option ℕ × Option ℕ)
spans path ms = do
  taken ← nanoseconds_before (codes "available_within") 0 (codes "taken_within") path ms
  available ← optional_nanoseconds 0 (unwrap_or taken most_nanoseconds) (codes "available_within") path ms
  Ok (taken, available)
