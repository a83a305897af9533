-- The rounds that raise the weights of a row until no write, no firing of a rule and no take can raise its sum.
use Rattle.std.specs.Prelude.{ℕ, zero, suc, ◌≡◌, ◌+◌, ◌-◌, ◌<◌, ◌==◌, ◌&&◌, ◌||◌, not, nat_lt, max, Bool, Option, None, is_none, List, [], ◌∷◌, filter, if◌then◌else◌}
use Rattle.std.specs.Int.{div_ceil}
use Rattle.dds_base.specs.Grid.{most_endpoints}
use Rattle.dds_base.specs.Sums.{any_below, total}
use Rattle.dds_base.specs.declared.portion.Portion.{Portion}
use Rattle.dds_match.specs.Network.{Network, capped, weighed}
use Rattle.dds_runs.specs.Accepted.{Row}
use Rattle.dds_propose.specs.declared.needs.Carrying.{Carrying}
use Rattle.dds_propose.specs.declared.needs.Carrying.TheVariants.{ByCaps, ByPermits}
use Rattle.dds_propose.specs.declared.targets.Target.{Target}
use Rattle.dds_propose.specs.Targets.{counts, reader_of}

-- a number that the clock gives, where the row carries samples by caps
abbrev pub by_caps : Carrying → Option ℕ → Option ℕ
by_caps ByCaps number = number
by_caps ByPermits number = None

-- the row carries the samples of the key in flight to the reader by permits: no caps bound them, or no writer matches. Where caps do, a take of them
-- weighs nothing
abbrev pub by_permits : Network → ℕ → ℕ → Bool
by_permits net r k = is_none (capped net r k) || not (any_below net.writers (λ w. net.matched w r))

-- what a row sees of the network that carries samples in this way: no caps where it carries all by permits
abbrev pub seen : Carrying → Network → Network
seen carrying net = record net { cap = λ w r k. by_caps carrying (net.cap w r k); lag = λ w r k. by_caps carrying (net.lag w r k) }

-- what a write of the key at the writer puts in flight, by the weights of samples, but for samples that caps carry
abbrev pub spread_by : Network → (ℕ → ℕ → ℕ) → ℕ → ℕ → ℕ
spread_by net f w k = total net.readers (λ r. if net.matched w r && (net.hears r k && by_permits net r k) then f r k else 0)

-- the needs of a rule that the row carries by permits
abbrev pub needs_of : Network → List (Portion ℕ) → List (Portion ℕ)
needs_of net es = filter (λ e. by_permits net e.endpoint e.key) es

-- two rows weigh the same
pub record IsSame (a b : Row) : Type 0 where
  pub samples : (r k : ℕ) → a.samples r k ≡ b.samples r k
  pub takes : (r k : ℕ) → a.takes r k ≡ b.takes r k
  pub permits : (w k : ℕ) → a.permits w k ≡ b.permits w k

-- before the first round: a sample that counts for the target weighs 5040
abbrev pub opening : Network → Target → Row
opening net target = record {
  samples = λ r k. if (r == reader_of target) && counts net target k then 5040 else 0;
  takes = λ r k. 0;
  permits = λ w k. 0;
}

-- a permit rises to the sum over the samples that its write makes, but for samples that caps carry
abbrev pub permits_risen : Network → Row → ℕ → ℕ → ℕ
permits_risen net row w k = max (row.permits w k) (spread_by net row.samples w k)

-- the number at one key of one endpoint is another
abbrev pub with_number : (ℕ → ℕ → ℕ) → ℕ → ℕ → ℕ → ℕ → ℕ → ℕ
with_number f e k n i j = if (i == e) && (j == k) then n else f i j

-- where what is written weighs more than these needs, the take of the first rises to the least weight at which it doesn't
abbrev pub first_risen : List (Portion ℕ) → ℕ → (ℕ → ℕ → ℕ) → ℕ → ℕ → ℕ
first_risen [] written takes = takes
first_risen (e ∷ es) written takes =
    if nat_lt (weighed (e ∷ es) takes) written
    then with_number takes e.endpoint e.key (takes e.endpoint e.key + div_ceil (written - weighed (e ∷ es) takes) e.count)
    else takes

-- the takes after the first so many rules, in file order
unfoldable pub takes_risen : Network → (ℕ → ℕ → ℕ) → (ℕ → ℕ → ℕ) → ℕ → ℕ → ℕ → ℕ
takes_risen net permits takes zero = takes
takes_risen net permits takes (suc u) = first_risen (needs_of net (net.rule u).takes) (weighed (net.rule u).writes permits) (takes_risen net permits takes u)

-- one round: permits rise by samples, then takes by permits, then samples by takes
abbrev pub round : Network → Row → Row
round net row = record {
  samples = λ r k. max (row.samples r k) (takes_risen net (permits_risen net row) row.takes net.rules r k);
  takes = takes_risen net (permits_risen net row) row.takes net.rules;
  permits = permits_risen net row;
}

-- the row after so many rounds
unfoldable pub rounds : Network → Row → ℕ → Row
rounds net row zero = row
rounds net row (suc n) = round net (rounds net row n)

-- fewer than 256 rounds lead to the row, and one more changes nothing
pub record IsRest (net : Network) (target : Target) (row : Row) : Type 0 where
  pub count : ℕ
  pub few : count < most_endpoints
  pub reached : IsSame row (rounds net (opening net target) count)
  pub still : IsSame (round net row) row
