use Rattle.std.proofs.Common.{◌≡◌, ◌<◌, length, get_or, sym, ap, subst, ◌∙◌}
use Rattle.std.proofs.lemmas.List.Edits.{map_over_more}
use Rattle.dds_flights.specs.Flight.{FlightState, HasRoom, after_write}
use Rattle.dds_flights.proofs.Loops.{next_is}
use Rattle.dds_flights.proofs.flights.Flights.note_write.Goals as goal

pub note_write-requires : goal.note_write-requires
note_write-requires c =
    let xs = c.deref_mut-flight-items.result.now in
    let i = c.loop-flight.flight-index in
    let x = c.flight-item.result in
    let same = next_is (after_write c.args.key c.args.number) xs c.loop-flight.flight-items i x c.loop-flight-test.true c.loop-flight.invariant in
    let listed : xs ≡ c.args.self.now = c.deref_mut-flight-items.ensures.value ∙ c.self.view_is in
    let within : i < length c.args.self.now = subst (λ ys. i < length ys) listed c.loop-flight-test.true in
    subst (λ (f : FlightState). f.key ≡ c.args.key → HasRoom f) (sym (same ∙ ap (λ ys. get_or ys i x) listed)) (c.requires i x within)

pub loop-flight-preserved : goal.loop-flight-preserved
loop-flight-preserved c =
    rw (c.note_write.ensures, ← c.flight-item.is)
    (map_over_more (after_write c.args.key c.args.number) c.deref_mut-flight-items.result.now c.loop-flight.flight-items c.loop-flight.flight-index c.flight-item.result c.loop-flight-test.true c.loop-flight.invariant c.flight-item.is)
