use Rattle.std.proofs.lemmas.List.Edits.{map_over_more}
use Rattle.dds_flights.specs.Flight.{after_take}
use Rattle.dds_flights.proofs.flights.Flights.note_take.Goals as goal

pub loop-flight-preserved : goal.loop-flight-preserved
loop-flight-preserved c =
    rw (c.note_take.ensures, ← c.flight-item.is)
    (map_over_more (after_take c.args.reader c.args.key) c.deref_mut-flight-items.result.now c.loop-flight.flight-items c.loop-flight.flight-index c.flight-item.result c.loop-flight-test.true c.loop-flight.invariant c.flight-item.is)
