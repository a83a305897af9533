-- What the fields of a domain stand for.
use Rattle.dds_domain.specs.Standing.{PartsState}
use Rattle.dds_domain.specs.declared.parts.Parts.TheInside.{Inside}

abbrev pub view_of : Inside → PartsState
view_of a = record { plan = a.plan; writers = a.writers.items; readers = a.readers.items; ledger = a.ledger; flights = a.flights.items; bus = a.bus }
