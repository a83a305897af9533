-- What the tables of a plan hold.
use Rattle.std.specs.Prelude.{◌≡◌, ℕ, ◌+◌, ◌*◌, ◌<◌, Bool, List, Option, None, length}
use Rattle.std.specs.List.{slice_index_or}
use Rattle.dds_base.specs.Grid.{most_endpoints, most_keys}
use Rattle.dds_lists.specs.Lists.{Lists}
use Rattle.dds_match.specs.declared.matching.WhyNot.{WhyNot}
use Rattle.dds_match.specs.declared.tables.Tables.{Tables}
use Rattle.dds_match.specs.Marks.{is_marked}
use Rattle.dds_match.specs.Matching.{why_not}
use Rattle.dds_match.specs.Neighbours.{ShowsEach, ShowsNeighbours}
use Rattle.dds_match.specs.Network.{capped, reach, is_written}
use Rattle.dds_match.specs.Plan.{hears, is_free, network_of}
use Rattle.dds_match.specs.Writes.{writes_at}

-- the reason at a writer and a reader: each writer has a row of 256 places
abbrev pub reason_at : List (Option WhyNot) → ℕ → ℕ → Option WhyNot
reason_at reasons w r = slice_index_or reasons (w * most_endpoints + r) None

-- a row for each writer, with the reason of each reader below 256
pub record ShowsReasons (d : Lists) (reasons : List (Option WhyNot)) : Type 0 where
  pub rows : length reasons ≡ length d.writers.entries * most_endpoints
  pub each : (w r : ℕ) → w < length d.writers.entries → r < most_endpoints → reason_at reasons w r ≡ why_not d w r

-- the keys of each reader's filter
pub record ShowsHearing (d : Lists) (marks : List Bool) : Type 0 where
  pub each : (r k : ℕ) → is_marked marks r k ≡ hears d r k

-- a row for each reader, with the sum of the caps of each key below 64
pub record ShowsCapped (d : Lists) (cells : List (Option ℕ)) : Type 0 where
  pub rows : length cells ≡ length d.readers.entries * most_keys
  pub each : (r k : ℕ) → r < length d.readers.entries → k < most_keys → slice_index_or cells (r * most_keys + k) None ≡ capped (network_of d) r k

-- each table shows its word
pub record ShowsPlan (d : Lists) (t : Tables) : Type 0 where
  pub reasons : ShowsReasons d t.reasons.items
  pub hearing : ShowsHearing d t.hearing
  pub reached : (r k : ℕ) → is_marked t.reached r k ≡ reach (network_of d) r k
  pub written : (w k : ℕ) → is_marked t.written w k ≡ is_written (network_of d) w k
  pub free : (w k : ℕ) → is_marked t.free w k ≡ is_free d w k
  pub neighbours : ShowsNeighbours d t.neighbours
  pub writes : ShowsEach (writes_at d) t.writes.items
  pub capped : ShowsCapped d t.capped.items
