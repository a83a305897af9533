use Rattle.std.proofs.Common.{◌∙◌}
use Rattle.dds_sizing.proofs.Explanations.{last_explained, next_explained}
use Rattle.dds_sizing.proofs.reasons.explain_sizes.Goals as goal

pub loop-target-preserved : goal.loop-target-preserved
loop-target-preserved g c =
    next_explained c.args.plan.now c.deref-target-items.result.now c.loop-target.target-index c.target-item.result c.loop-target.list.items _ c.in_ok-explained.explained
    c.loop-target-test.true c.target-item.is c.loop-target.invariant c.in_ok-push.ensures.items c.in_ok-explained.ensures.target c.in_ok-explained.ensures.explained

pub returns : goal.returns
returns g c =
    last_explained c.args.plan.now c.deref-target-items.result.now c.loop-target.target-index c.loop-target.list.items c.loop-target-test.false
    (c.deref-target-items.ensures.value ∙ c.in_ok-targets.ensures) c.loop-target.invariant
