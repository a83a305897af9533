-- Which paces and spans of a deployment bound nothing.
use Rattle.std.specs.Prelude.{ℕ, Bool, ◌&&◌, not, is_some, is_none}
use Rattle.std.specs.List.{list_any}
use Rattle.dds_base.specs.Sums.{any_below}
use Rattle.dds_base.specs.declared.portion.Portion.{Portion}
use Rattle.dds_lists.specs.Lists.{Lists}
use Rattle.dds_match.specs.Plan.{network_of}
use Rattle.dds_match.specs.Paces.{is_awaited, taken_span}

-- what is written there comes to the reader, which must lose nothing
abbrev pub comes_strictly : Lists → ℕ → Portion ℕ → Bool
comes_strictly d r e = is_awaited d e.endpoint r e.key

-- one of the rule's writes does
abbrev pub feeds : Lists → ℕ → ℕ → Bool
feeds d r u = list_any (comes_strictly d r) ((network_of d).rule u).writes

-- and the deployment says how soon the reader takes it
abbrev pub feeds_span : Lists → ℕ → ℕ → Bool
feeds_span d u r = is_some (taken_span d r) && feeds d r u

-- the rule has a pace, and feeds no reader of which the deployment says how soon it takes
abbrev pub is_pace_unused : Lists → ℕ → Bool
is_pace_unused d u = is_some ((network_of d).rule u).pace && not (any_below (network_of d).readers (feeds_span d u))

-- the deployment says how soon the reader takes, and a rule without a pace feeds it
abbrev pub is_span_unused : Lists → ℕ → ℕ → Bool
is_span_unused d r u = is_none ((network_of d).rule u).pace && feeds d r u

-- the deployment says how soon the reader takes, though that may miss samples
abbrev pub is_span_of_watcher : Lists → ℕ → Bool
is_span_of_watcher d r = (network_of d).watcher r && is_some (taken_span d r)
