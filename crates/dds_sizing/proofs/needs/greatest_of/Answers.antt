use Rattle.std.proofs.Common.{None}
use Rattle.dds_match.specs.Plan.{network_of}
use Rattle.dds_sizing.specs.Needs.{greatest_of}
use Rattle.dds_sizing.proofs.NeedsLists.{last_greatest, next_greatest}
use Rattle.dds_sizing.proofs.needs.greatest_of.Goals as goal

pub loop-size-preserved : goal.loop-size-preserved
loop-size-preserved c =
    let net = network_of c.args.plan.now in
    next_greatest net c.args.writer c.args.key c.loop-size.greatest _ (greatest_of net c.args.writer c.args.key None c.args.sizes.now) c.args.sizes.now c.loop-size.size-index c.size-item.result
    c.loop-size-test.true c.size-item.is c.with_size-greatest.ensures c.loop-size.invariant

pub returns : goal.returns
returns c =
    let net = network_of c.args.plan.now in
    last_greatest net c.args.writer c.args.key c.loop-size.greatest (greatest_of net c.args.writer c.args.key None c.args.sizes.now) c.args.sizes.now c.loop-size.size-index
    c.loop-size-test.false c.loop-size.invariant
