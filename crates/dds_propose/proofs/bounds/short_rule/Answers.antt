use Rattle.std.proofs.Common.{◌≤◌, length, subst, sym}
use Rattle.dds_lists.specs.Lists.{Rule}
use Rattle.dds_check.proofs.Plans.{writes_few}
use Rattle.dds_propose.proofs.bounds.short_rule.Goals as goal

pub returns-clause-short : goal.returns-clause-short
returns-clause-short c =
    subst (λ (x : Rule). length x.writes ≤ 16) (sym c.rule.ensures) (writes_few c.args.plan.now c.args.u c.assert_well_formed.ensures.well_formed)
