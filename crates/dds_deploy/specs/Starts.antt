-- How often a rule may write at the opening.
use Rattle.std.specs.Prelude.{codes, ℕ, Bool, List, Option, Some, None, Ok, is_some, ◌||◌, if◌then◌else◌}
use Rattle.toml.specs.Data.{Data, Members, as_str}
use Rattle.dds_fields.specs.declared.fault.FaultKind.TheVariants.{OutOfRange}
use Rattle.dds_fields.specs.Paths.{key_path}
use Rattle.dds_fields.specs.Reading.{◌>>=◌, Read, unless, a_number, optional}
use Rattle.dds_fields.specs.Words.{word_or}
use Rattle.dds_deploy.specs.Versions.{since_third}

-- a number of times
unfoldable pub some_times : List ℕ → Data → Read (Option ℕ)
some_times path d = do
  n ← a_number 0 65535 path d
  Ok (Some n)

-- a start: a number of times, or since version 3 none where the rule is free, so that what it names may be written at any time
unfoldable pub a_start : ℕ → List ℕ → Data → Read (Option ℕ)
a_start v path d = if since_third v then word_or (codes "unlimited") None (some_times path d) path (as_str d) else some_times path d

-- the start of a rule. One that takes something can't be free
unfoldable pub start_field : ℕ → (takes_nothing : Bool) → List ℕ → Members → Read (Option ℕ)
start_field v takes_nothing path ms = do
  start ← optional (codes "start") (Some 0) (a_start v) path ms
  unless OutOfRange (key_path path (codes "start")) (takes_nothing || is_some start) start
