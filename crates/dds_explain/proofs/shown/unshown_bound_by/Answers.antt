use Rattle.std.proofs.Common.{◌≡◌, ◌∙◌, false, sym, ap}
use Rattle.std.proofs.lemmas.Result.{IfOk-weaker}
use Rattle.dds_match.specs.Plan.{network_of}
use Rattle.dds_weights.specs.Lists.{Row}
use Rattle.dds_weights.specs.Views.{row_view}
use Rattle.dds_runs.specs.Accepted.{row_of}
use Rattle.dds_check.specs.Shown.{shows}
use Rattle.dds_explain.specs.Budgets.{budget_of}
use Rattle.dds_explain.specs.Shown.{bound_lines}
use Rattle.dds_explain.proofs.ExplainLaws.{otherwise}
use Rattle.dds_explain.proofs.shown.unshown_bound_by.Goals as goal

pub returns : goal.returns
returns c =
    let net = network_of c.args.plan.now in
    let row = row_view c.args.row.now in
    let b = c.args.bound.now in
    let fails : shows net (row_of row) b.bound b.reader b.key ≡ false =
    sym (c.shows.ensures ∙ ap (λ (r : Row). shows net (row_of r) b.bound b.reader b.key) c.new-weights.ensures) ∙ c.if-shows.false in
    let budget : c.of-budget.result ≡ budget_of net (row_of row) = c.of-budget.ensures ∙ ap (λ (r : Row). budget_of net (row_of r)) c.new-weights.ensures in
    IfOk-weaker c.bound_lines.result _ _ (λ text is. otherwise _ _ _ fails (is ∙ ap (bound_lines c.args.plan.now row b) budget)) c.bound_lines.ensures
