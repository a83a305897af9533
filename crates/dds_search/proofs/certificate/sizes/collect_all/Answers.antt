use Rattle.std.proofs.Common.{◌∙◌}
use Rattle.dds_match.specs.Plan.{network_of}
use Rattle.dds_search.proofs.Growing.{last_size, next_size}
use Rattle.dds_search.proofs.certificate.sizes.collect_all.Goals as goal

pub loop-target-preserved : goal.loop-target-preserved
loop-target-preserved g c =
    next_size (network_of c.args.plan.now) c.deref-target-items.result.now c.loop-target.target-index c.target-item.result c.loop-target.sizes.items _ c.in_ok-size.size
    c.loop-target-test.true c.target-item.is c.loop-target.invariant c.in_ok-push.ensures.items c.in_ok-size.ensures.target c.in_ok-size.ensures.shown

pub returns : goal.returns
returns g c =
    last_size (network_of c.args.plan.now) c.deref-target-items.result.now c.loop-target.target-index c.loop-target.sizes.items c.loop-target-test.false
    (c.deref-target-items.ensures.value ∙ c.in_ok-targets.ensures) c.loop-target.invariant
