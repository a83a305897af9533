use Rattle.std.proofs.Common.{◌≡◌, ◌++◌, map, take, drop}
use Rattle.dds_flights.specs.Flight.{after_write}
use Rattle.dds_flights.proofs.flights.Flights.note_write.Given as goal

abbrev pub invariant-loop-flight : goal.invariant-loop-flight
invariant-loop-flight l =
    l.flight-items ≡ map (after_write l.key l.number) (take l.flight-index l.initial.flight-items) ++ drop l.flight-index l.initial.flight-items
