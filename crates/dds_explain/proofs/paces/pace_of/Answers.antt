use Rattle.std.proofs.Common.{◌≤◌, IfSome, subst, sym}
use Rattle.dds_lists.specs.declared.lists.Pace.{Pace}
use Rattle.dds_lists.specs.Lists.{Rule}
use Rattle.dds_lists.specs.WellFormed.{IsConsistent}
use Rattle.dds_explain.proofs.Periods.{some_period}
use Rattle.dds_explain.proofs.paces.pace_of.Goals as goal

pub returns-clause-period : goal.returns-clause-period
returns-clause-period c =
    subst (λ (x : Rule). IfSome x.pace (λ (p : Pace). 1 ≤ p.period)) (sym c.rule.ensures)
    (some_period c.args.plan.now (subst IsConsistent c.lists.ensures.value c.assert_well_formed.ensures.consistent) c.args.u)
