use Rattle.std.proofs.Common.{arith}
use Rattle.dds_rules.proofs.PortionLaws.{give_room, give_more}
use Rattle.dds_rules.proofs.exchange.give.Goals as goal

pub add-requires-clause-room : goal.add-requires-clause-room
add-requires-clause-room c = rw c.from-in-loop-given.ensures (give_room c.args.writes.now c.loop-given.given-index _ _ _ c.args.times _ c.args.permits.now _
    (record { within = omega arith; portion = c.given-item.result; at = c.given-item.is; endpoint = c.number.ensures; key = c.number-in-loop-given.ensures; count = c.from.ensures })
    c.requires.room c.loop-given.invariant)

pub loop-given-preserved : goal.loop-given-preserved
loop-given-preserved c = give_more c.args.writes.now c.loop-given.given-index _ _ c.from.result c.args.times c.args.permits.now _ _
    (record { within = omega arith; portion = c.given-item.result; at = c.given-item.is; endpoint = c.number.ensures; key = c.number-in-loop-given.ensures; count = c.from.ensures })
    c.loop-given.invariant (rw c.from-in-loop-given.ensures at c.add.ensures)
