use Rattle.std.proofs.Common.{◌≡◌, ap}
use Rattle.dds_lists.specs.Lists.{Lists}
use Rattle.dds_weights.specs.Lists.{Certificate}
use Rattle.dds_explain.proofs.margin.Budgets.total_reason.Goals as goal

pub returns-in-Some : goal.returns-in-Some
returns-in-Some c =
    let plan : c.self.inside.plan.now ≡ c.args.self.now.0 = ap (λ (p : Lists × Certificate). p.0) c.self.view_is in
    let by_budget = rw (plan, c.in-Some.ensures.some.1) at c.total_head.ensures in
    rw (c.in-Some.ensures.some.0) by_budget
