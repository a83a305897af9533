use Rattle.std.specs.Str.Lines.{lines}
use Rattle.dds_conform.proofs.Told.{known_result, read_of_text}
use Rattle.dds_conform.proofs.reading.read_trace.Goals as goal

pub returns-in-Ok-clause-fault : goal.returns-in-Ok-clause-fault
returns-in-Ok-clause-fault c =
    read_of_text c.args.plan.now c.args.bytes.now c.in-Ok.text.now c.read_text.result c.in-Ok.ensures.cases.0 c.in-Ok.ensures.cases.1 c.read_text.ensures.fault

pub returns-in-Ok-clause-known : goal.returns-in-Ok-clause-known
returns-in-Ok-clause-known c = known_result c.args.plan.now (lines c.in-Ok.text.now) c.read_text.result c.read_text.ensures.trace
