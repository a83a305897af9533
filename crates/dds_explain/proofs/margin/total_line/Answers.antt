use Rattle.std.proofs.Common.{◌≡◌, ◌∙◌, codes, string_bytes, ap}
use Rattle.dds_qos.specs.declared.limits.ReaderLimits.{ReaderLimits}
use Rattle.dds_match.specs.Plan.{network_of}
use Rattle.dds_weights.specs.Views.{row_view}
use Rattle.dds_runs.specs.Accepted.{row_of}
use Rattle.dds_explain.specs.Budgets.{budget_of}
use Rattle.dds_explain.specs.Margin.{margin_text, named_limit, total_words}
use Rattle.dds_explain.proofs.margin.total_line.Goals as goal

pub returns : goal.returns
returns c =
    let words : c.as_str.result.now ≡ total_words c.args.plan.now c.args.total.now =
    c.as_str.ensures.value ∙ c.in_ok-words.ensures in
    let limit : c.as_str-2.result.now ≡ named_limit (codes "max_samples") ((network_of c.args.plan.now).reader_limits c.args.total.now.reader).max_samples =
    c.as_str-2.ensures.value ∙ (c.in_ok-limit.ensures ∙ ap (λ (x : ReaderLimits). named_limit (codes "max_samples") x.max_samples) c.reader_limits-max_samples.ensures) in
    let margin : string_bytes c.in_ok-margin.margin ≡ margin_text (total_words c.args.plan.now c.args.total.now) (named_limit (codes "max_samples") ((network_of c.args.plan.now).reader_limits c.args.total.now.reader).max_samples) (row_view c.args.row.now) (budget_of (network_of c.args.plan.now) (row_of (row_view c.args.row.now))) =
    rw (words, limit, c.requires) at c.in_ok-margin.ensures in
    rw (margin) at c.format.ensures.ok
