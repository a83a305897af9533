-- How soon a reader has to take, so that its limit is enough for what rules write by the clock. All times are in nanoseconds.
use Rattle.std.specs.Prelude.{ℕ, ◌≡◌, ◌<◌, ◌≤◌, Bool, true, false, nat_le, Option, Some, None}
use Rattle.std.specs.Option.{option_map_or}
use Rattle.dds_lists.specs.Lists.{Lists}
use Rattle.dds_match.specs.Network.{matched_writers}
use Rattle.dds_match.specs.Paces.{in_flight}
use Rattle.dds_match.specs.Plan.{network_of}
use Rattle.dds_match.specs.Sums.{sum_of}

-- the longest span that a deployment can give
abbrev pub longest : ℕ
longest = 9223372036854775807

-- at most how many samples of the key the reader has yet to take, if it takes each within a span; none where paces don't bound them
abbrev pub most_awaited : Lists → ℕ → ℕ → ℕ → Option ℕ
most_awaited d r k span = sum_of (λ w. in_flight d w r k (Some span)) (matched_writers (network_of d) r)

-- they are no more than a limit
abbrev pub is_kept : Lists → ℕ → ℕ → ℕ → ℕ → Bool
is_kept d r k limit span = option_map_or (λ n. nat_le n limit) (most_awaited d r k span) false

-- the longest span with which they are no more than a limit; none where no span is so short
abbrev pub IsLongest : Lists → ℕ → ℕ → ℕ → Option ℕ → Type 0
IsLongest d r k limit (Some span) = (is_kept d r k limit span ≡ true) × ((other : ℕ) → span < other → other ≤ longest → is_kept d r k limit other ≡ false)
IsLongest d r k limit None = (other : ℕ) → is_kept d r k limit other ≡ false
