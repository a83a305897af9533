use Rattle.dds_match.specs.Plan.{network_of}
use Rattle.dds_flights.specs.Standing.{Open}
use Rattle.dds_flights.proofs.Adding.{CoversBelow}
use Rattle.dds_flights.proofs.flights.Flights.open.Given as goal

-- the flights of the readers below r
abbrev pub invariant-loop-r : goal.invariant-loop-r
invariant-loop-r l = record {
  each : Open (network_of l.plan) l.writer l.flights.items;
  covers : CoversBelow (network_of l.plan) l.writer l.r l.flights.items;
}
