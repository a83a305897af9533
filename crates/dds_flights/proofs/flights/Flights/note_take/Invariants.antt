use Rattle.std.proofs.Common.{◌≡◌, ◌++◌, map, take, drop}
use Rattle.dds_flights.specs.Flight.{after_take}
use Rattle.dds_flights.proofs.flights.Flights.note_take.Given as goal

abbrev pub invariant-loop-flight : goal.invariant-loop-flight
invariant-loop-flight l =
    l.flight-items ≡ map (after_take l.reader l.key) (take l.flight-index l.initial.flight-items) ++ drop l.flight-index l.initial.flight-items
