use Rattle.std.proofs.Common.{arith}
use Rattle.dds_match.specs.Plan.{network_of}
use Rattle.dds_propose.specs.Relaxation.{seen}
use Rattle.dds_propose.specs.Tables.{cell}
use Rattle.dds_propose.proofs.NeedByNeed.{needs_more}
use Rattle.dds_propose.proofs.needs.needs_weighed.Goals as goal

pub loop-need-preserved : goal.loop-need-preserved
loop-need-preserved c =
    let more = needs_more (seen c.args.carrying (network_of c.args.plan.now)) (cell c.args.takes.now) c.args.needs.now c.loop-need.need-index c.need-item.result c.loop-need-test.true c.need-item.is in
    let value = c.need_weighed-total.ensures.value in
    let small = c.need_weighed-total.ensures.small in
    (omega arith, omega arith)
