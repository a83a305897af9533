use Rattle.std.proofs.Common.{take}
use Rattle.dds_writer.specs.Order.{lists_among, TellsLast}
use Rattle.dds_writer.proofs.order.Order.last_among.Given as goal

abbrev pub invariant-loop-key : goal.invariant-loop-key
invariant-loop-key l = TellsLast (lists_among l.self.pairs (take l.key-index l.keys)) l.end l.greatest
