use Rattle.std.proofs.Common.{sym, ◌∙◌}
use Rattle.dds_match.specs.Plan.{network_of}
use Rattle.dds_propose.specs.Relaxation.{seen}
use Rattle.dds_propose.proofs.NeedByNeed.{need_found, need_passed}
use Rattle.dds_propose.proofs.needs.first_need.Goals as goal

pub returns-then-by_permits : goal.returns-then-by_permits
returns-then-by_permits c =
    sym (c.loop-need.invariant ∙ need_found (seen c.args.carrying (network_of c.args.plan.now)) c.args.needs.now c.loop-need.need-index c.need-item.result c.loop-need-test.true c.need-item.is (sym c.by_permits.ensures ∙ c.if-by_permits.true))

pub loop-need-preserved : goal.loop-need-preserved
loop-need-preserved c =
    c.loop-need.invariant ∙ need_passed (seen c.args.carrying (network_of c.args.plan.now)) c.args.needs.now c.loop-need.need-index c.need-item.result c.loop-need-test.true c.need-item.is (sym c.by_permits.ensures ∙ c.if-by_permits.false)
