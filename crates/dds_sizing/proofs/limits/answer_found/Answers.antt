use Rattle.std.proofs.Common.{false}
use Rattle.dds_sizing.specs.Limits.{none_told}
use Rattle.dds_sizing.proofs.LimitEnds.{said_end}
use Rattle.dds_sizing.proofs.limits.answer_found.Goals as goal

pub returns-in-None-clause-gives : goal.returns-in-None-clause-gives
returns-in-None-clause-gives c = rw c.in-None.is (said_end (none_told c.args.style) false c.answer_none.result c.answer_none.ensures.said c.answer_none.ensures.memory)
