use Rattle.dds_events.proofs.Said.{read_of_text}
use Rattle.dds_events.proofs.reading.read_events.Goals as goal

pub returns-in-Ok-clause-fault : goal.returns-in-Ok-clause-fault
returns-in-Ok-clause-fault c =
    read_of_text c.args.lists.now c.args.bytes.now c.in-Ok.text.now c.read_text.result c.in-Ok.ensures.cases.0 c.in-Ok.ensures.cases.1 c.read_text.ensures.fault
