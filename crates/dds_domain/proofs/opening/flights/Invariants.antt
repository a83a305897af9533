use Rattle.std.proofs.Common.{◌≡◌, [], length}
use Rattle.dds_match.specs.Plan.{network_of}
use Rattle.dds_flights.specs.Standing.{FlightsStand}
use Rattle.dds_domain.specs.Standing.{AllAt}
use Rattle.dds_domain.proofs.opening.flights.Given as goal

-- the flights of the writers so far
abbrev pub invariant-loop-w : goal.invariant-loop-w
invariant-loop-w l = record {
  count : length l.all.items ≡ l.w;
  each : AllAt (λ w fs. FlightsStand (network_of l.plan) w [] (λ r k. 0) fs) l.all.items;
}
