use Rattle.dds_domain.specs.Standing.{PartsState}
use Rattle.dds_domain.proofs.Opened.{parts_opened}
use Rattle.dds_domain.proofs.opening.open.Goals as goal

pub returns-clause-opening : goal.returns-clause-opening
returns-clause-opening c =
    let d : PartsState = record {
      plan = c.args.plan;
      writers = c.in-Ok.writers.items;
      readers = c.in-Ok-readers.readers.items;
      ledger = c.in-Ok-open.ledger;
      flights = c.in-Ok-flights.flights.items;
      bus = c.in-Ok-new.bus;
    } in
    parts_opened d c.in-Ok.ensures.count c.in-Ok-readers.ensures.count c.in-Ok.ensures.each c.in-Ok-readers.ensures.each c.in-Ok-open.ensures.world c.in-Ok-flights.ensures.count c.in-Ok-flights.ensures.each c.in-Ok-new.ensures
