-- How many samples rules ever permit to write.
use Rattle.std.specs.Prelude.{◌≡◌, ℕ, ◌+◌, ◌*◌, ◌≤◌, ◌<◌, List, Option, Some, None, if◌then◌else◌, option_map}
use Rattle.std.specs.List.{slice_index_or}
use Rattle.dds_base.specs.Grid.{most_keys}
use Rattle.dds_base.specs.Sums.{any_below}
use Rattle.dds_lists.specs.Lists.{Rule}
use Rattle.dds_match.specs.Network.{Network, named}
use Rattle.dds_runs.specs.Accepted.{opening_permits}
use Rattle.dds_check.specs.Limits.{gives_more}

-- how many samples of the key one rule more ever permits to write at the writer; none where each of its firings permits more
abbrev pub with_rule : Rule → ℕ → ℕ → Option ℕ → Option ℕ
with_rule u w k before = if gives_more u w k then None else option_map (λ n. n + named u.writes w k * u.start) before

-- how many samples of the key all rules ever permit to write at the writer; none where firings permit more
abbrev pub all_permits : Network → ℕ → ℕ → Option ℕ
all_permits net w k = if any_below net.rules (λ u. gives_more (net.rule u) w k) then None else Some (opening_permits net w k)

-- a cell for each key below 64, with what all rules ever permit at the writer
abbrev pub ShowsPermits : Network → ℕ → List (Option ℕ) → Type 0
ShowsPermits net w cells = (k : ℕ) → k < most_keys → slice_index_or cells k None ≡ all_permits net w k

-- no number that is there is greater
abbrev pub AreAtMost : ℕ → List (Option ℕ) → Type 0
AreAtMost most cells = (k n : ℕ) → slice_index_or cells k None ≡ Some n → n ≤ most
