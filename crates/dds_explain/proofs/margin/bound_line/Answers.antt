use Rattle.std.proofs.Common.{◌≡◌, ◌∙◌, string_bytes, ap}
use Rattle.dds_match.specs.Plan.{network_of}
use Rattle.dds_weights.specs.Views.{row_view}
use Rattle.dds_runs.specs.Accepted.{budget, row_of}
use Rattle.dds_explain.specs.declared.budgets.Budget.{Budget}
use Rattle.dds_explain.specs.Budgets.{budget_of}
use Rattle.dds_explain.specs.Margin.{bound_words, margin_text, named_instance_limit}
use Rattle.dds_explain.specs.Shown.{shown_text}
use Rattle.dds_explain.proofs.margin.bound_line.Goals as goal

pub returns : goal.returns
returns c =
    let net = network_of c.args.plan.now in
    let row = row_view c.args.row.now in
    let words : c.as_str.result.now ≡ bound_words c.args.plan.now c.args.bound.now =
    c.as_str.ensures.value ∙ c.in_ok-words.ensures in
    let limit : c.as_str-2.result.now ≡ named_instance_limit c.args.plan.now c.args.bound.now.reader =
    c.as_str-2.ensures.value ∙ c.in_ok-limit.ensures in
    let margin : string_bytes c.in_ok-margin.margin ≡ margin_text (bound_words c.args.plan.now c.args.bound.now) (named_instance_limit c.args.plan.now c.args.bound.now.reader) row (budget_of net (row_of row)) =
    rw (words, limit, c.requires) at c.in_ok-margin.ensures in
    let shown : string_bytes c.in_ok-shown.shown ≡ shown_text (budget net (row_of row)) ((row_of row).samples c.args.bound.now.reader c.args.bound.now.key) =
    c.in_ok-shown.ensures ∙ (ap (λ (b : Budget). shown_text b.whole c.sample_weight-weight.result) c.requires ∙ ap (shown_text (budget net (row_of row))) c.sample_weight-weight.ensures) in
    rw (margin, shown, c.sample_weight-weight.ensures) at c.format.ensures.ok
