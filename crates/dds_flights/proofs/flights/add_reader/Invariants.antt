use Rattle.dds_match.specs.Plan.{network_of}
use Rattle.dds_flights.specs.Standing.{Adds, Covers}
use Rattle.dds_flights.proofs.flights.add_reader.Given as goal

-- the flights of the keys below k
abbrev pub invariant-loop-k : goal.invariant-loop-k
invariant-loop-k l = record {
  adds : Adds (network_of l.plan) l.writer l.initial.flights.items l.flights.items;
  covers : Covers (network_of l.plan) l.writer l.reader l.k l.flights.items;
}
