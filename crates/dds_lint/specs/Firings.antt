-- How often each rule can fire, by how much can come of what it takes.
use Rattle.std.specs.Prelude.{ℕ, zero, suc, ◌≡◌, ◌+◌, ◌*◌, ◌<◌, ◌≤◌, Bool, true, ◌&&◌, ◌||◌, ◌==◌, nat_lt, nat_le, List, length, min, slice_index, if◌then◌else◌}
use Rattle.std.specs.List.{list_all, sum_by}
use Rattle.dds_base.specs.Grid.{most_keys, most_places}
use Rattle.dds_base.specs.Sums.{count_below, total}
use Rattle.dds_base.specs.declared.portion.Portion.{Portion}
use Rattle.dds_match.specs.Network.{Network}

-- the rule takes something
abbrev pub has_takes : Network → ℕ → Bool
has_takes net u = nat_lt 0 (length (net.rule u).takes)

-- the rule permits writes at the opening, or at any time
abbrev pub opens : Network → ℕ → Bool
opens net u = (net.rule u).free || nat_lt 0 (net.rule u).start

-- so many firings are counted: a rule that can fire more often counts as one that fires without end
abbrev pub most_firings : ℕ
most_firings = 1000

-- what comes of a rule that writes without end: more than so many firings, and one, take of anything
abbrev pub plenty : ℕ
plenty = 2147483648

-- how often the rule permits its writes, at the opening and where it fires so often
abbrev pub rounds : Network → ℕ → ℕ → ℕ
rounds net u n = ((net.rule u).start + n) + (if (net.rule u).free || nat_lt most_firings n then plenty else 0)

-- how many samples of the key a write comes to at the reader, each time, and all writes of a rule
abbrev pub share : Network → ℕ → ℕ → Portion ℕ → ℕ
share net r k e = if (e.key == k) && net.matched e.endpoint r then e.count else 0

abbrev pub sends : Network → ℕ → ℕ → ℕ → ℕ
sends net r k u = sum_by (share net r k) (net.rule u).writes

-- how many of the key are sent to the reader, where rules fire as often as these limits say
abbrev pub sent : Network → (ℕ → ℕ) → ℕ → ℕ → ℕ
sent net limit r k = total net.rules (λ u. sends net r k u * rounds net u (limit u))

-- as far as that's counted: no number of firings that is counted takes more
abbrev pub capped : ℕ → ℕ
capped n = min n 4294967295

-- so many can come at most, if the reader hears the key
abbrev pub comes : Network → (ℕ → ℕ) → ℕ → ℕ → ℕ
comes net limit r k = if net.hears r k then capped (sent net limit r k) else 0

-- n times as much as is taken there can come
abbrev pub covers : Network → (ℕ → ℕ) → ℕ → Portion ℕ → Bool
covers net limit n e = nat_le (n * e.count) (comes net limit e.endpoint e.key)

-- the rule can fire n times: it takes something, and all of that can come n times
abbrev pub can_fire : Network → (ℕ → ℕ) → ℕ → ℕ → Bool
can_fire net limit u n = has_takes net u && list_all (covers net limit n) (net.rule u).takes

-- by these limits the rule can't fire more often than its own says, as far as firings are counted
abbrev pub IsWithin : Network → (ℕ → ℕ) → ℕ → Type 0
IsWithin net limit u = (n : ℕ) → n ≤ most_firings + 1 → can_fire net limit u n ≡ true → n ≤ limit u

-- nor can any
abbrev pub AreClosed : Network → (ℕ → ℕ) → Type 0
AreClosed net limit = (u : ℕ) → u < net.rules → IsWithin net limit u

-- the rule can fire so often at most: the number is within each limits that are closed
abbrev pub IsLeast : Network → ℕ → ℕ → Type 0
IsLeast net u n = (limit : ℕ → ℕ) → AreClosed net limit → n ≤ limit u

-- how often each rule can fire, at most: the least limits that are closed. A rule with a limit above `most_firings` may fire without end
pub record AreLimits (net : Network) (limit : ℕ → ℕ) : Type 0 where
  pub each : (u : ℕ) → u < net.rules → IsLeast net u (limit u)
  pub closed : AreClosed net limit

-- how many of the numbers 1 to `most_firings` + 1 it can fire
abbrev pub firings : Network → (ℕ → ℕ) → ℕ → ℕ
firings net limit u = count_below (most_firings + 1) (λ i. can_fire net limit u (i + 1))

-- the limits after so many rounds: at first each is 0, and with each round as often as a rule can fire by those before
unfoldable pub limits_after : Network → ℕ → ℕ → ℕ
limits_after net zero u = 0
limits_after net (suc n) u = firings net (limits_after net n) u

-- those after as many rounds as there are firings to count: no round raises one of them any more
abbrev pub limits_of : Network → ℕ → ℕ
limits_of net = limits_after net (net.rules * (most_firings + 1))

-- ── a table of what is sent, as far as that's counted
-- the places of the readers' keys have what is sent there
pub record ShowsSent (net : Network) (limit : ℕ → ℕ) (cells : List ℕ) : Type 0 where
  pub len : length cells ≡ most_places
  pub shown : (r k : ℕ) → r < net.readers → k < most_keys → capped (slice_index cells (r * most_keys + k)) ≡ capped (sent net limit r k)

-- what can come, what is covered and how often a rule can fire by a table
abbrev pub comes_by : Network → List ℕ → ℕ → ℕ → ℕ
comes_by net cells r k = if net.hears r k then capped (slice_index cells (r * most_keys + k)) else 0

abbrev pub covers_by : Network → List ℕ → ℕ → Portion ℕ → Bool
covers_by net cells n e = nat_le (n * e.count) (comes_by net cells e.endpoint e.key)

abbrev pub can_fire_by : Network → List ℕ → ℕ → ℕ → Bool
can_fire_by net cells u n = has_takes net u && list_all (covers_by net cells n) (net.rule u).takes
