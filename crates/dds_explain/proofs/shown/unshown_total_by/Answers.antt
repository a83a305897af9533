use Rattle.std.proofs.Common.{◌≡◌, ◌∙◌, false, sym, ap}
use Rattle.std.proofs.lemmas.Result.{IfOk-weaker}
use Rattle.dds_match.specs.Plan.{network_of}
use Rattle.dds_weights.specs.Lists.{Row}
use Rattle.dds_weights.specs.Views.{row_view}
use Rattle.dds_runs.specs.Accepted.{row_of}
use Rattle.dds_check.specs.Shown.{shows_all}
use Rattle.dds_explain.specs.Budgets.{budget_of}
use Rattle.dds_explain.specs.Shown.{total_lines}
use Rattle.dds_explain.proofs.ExplainLaws.{otherwise}
use Rattle.dds_explain.proofs.shown.unshown_total_by.Goals as goal

pub returns : goal.returns
returns c =
    let net = network_of c.args.plan.now in
    let row = row_view c.args.row.now in
    let b = c.args.total.now in
    let fails : shows_all net (row_of row) b ≡ false =
    sym (c.shows_all.ensures ∙ ap (λ (r : Row). shows_all net (row_of r) b) c.new-weights.ensures) ∙ c.if-shows_all.false in
    let budget : c.of-budget.result ≡ budget_of net (row_of row) = c.of-budget.ensures ∙ ap (λ (r : Row). budget_of net (row_of r)) c.new-weights.ensures in
    IfOk-weaker c.total_lines.result _ _ (λ text is. otherwise _ _ _ fails (is ∙ ap (total_lines c.args.plan.now row b) budget)) c.total_lines.ensures
