use Rattle.std.proofs.Common.{sym}
use Rattle.dds_faults.proofs.first.is_listed.Goals as goal

-- the fault at hand is the first one
pub returns-then-is_first : goal.returns-then-is_first
returns-then-is_first c = λ found. (c.loop-fault.fault-index, c.fault-item.result, c.loop-fault-test.true, sym c.fault-item.is, c.if-is_first.ensures found)
