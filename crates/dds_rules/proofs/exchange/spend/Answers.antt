use Rattle.std.proofs.Common.{arith}
use Rattle.dds_rules.proofs.PortionLaws.{spend_there, spend_more}
use Rattle.dds_rules.proofs.exchange.spend.Goals as goal

pub subtract-requires-clause-there : goal.subtract-requires-clause-there
subtract-requires-clause-there c = spend_there c.args.takes.now c.loop-needed.needed-index _ _ _ c.args.spare.now _
    (record { within = omega arith; portion = c.needed-item.result; at = c.needed-item.is; endpoint = c.number.ensures; key = c.number-in-loop-needed.ensures; count = c.from.ensures })
    c.requires.there c.loop-needed.invariant

pub loop-needed-preserved : goal.loop-needed-preserved
loop-needed-preserved c = spend_more c.args.takes.now c.loop-needed.needed-index _ _ _ c.args.spare.now _ _
    (record { within = omega arith; portion = c.needed-item.result; at = c.needed-item.is; endpoint = c.number.ensures; key = c.number-in-loop-needed.ensures; count = c.from.ensures })
    c.loop-needed.invariant c.subtract.ensures
