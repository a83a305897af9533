use Rattle.std.proofs.Common.{suc, take}
use Rattle.dds_writer.specs.Order.{lists_among, TellsNext}
use Rattle.dds_writer.proofs.order.Order.next_among.Given as goal

abbrev pub invariant-loop-key : goal.invariant-loop-key
invariant-loop-key l = TellsNext (lists_among l.self.pairs (take l.key-index l.keys)) (suc l.start) l.least
