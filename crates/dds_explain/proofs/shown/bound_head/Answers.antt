use Rattle.std.proofs.Common.{◌≡◌, ◌∙◌, string_bytes, ap, List, ℕ}
use Rattle.dds_weights.specs.Lists.{Row}
use Rattle.dds_weights.specs.Views.{row_view}
use Rattle.dds_explain.specs.Shown.{bound_claim, sample_line, unshown_line}
use Rattle.dds_explain.proofs.shown.bound_head.Goals as goal

pub returns : goal.returns
returns c =
    let line : string_bytes c.in_ok-line.line ≡ unshown_line (row_view c.args.row.now) (bound_claim c.args.plan.now c.args.bound.now) c.args.budget =
    c.in_ok-line.ensures ∙ ap (λ (claim : List ℕ). unshown_line (row_view c.args.row.now) claim c.args.budget) (c.as_str.ensures.value ∙ c.in_ok-claim.ensures) in
    let sample : string_bytes c.in_ok-sample.sample ≡ sample_line c.args.plan.now (row_view c.args.row.now) c.args.budget.whole c.args.bound.now.reader c.args.bound.now.key =
    c.in_ok-sample.ensures ∙ ap (λ (row : Row). sample_line c.args.plan.now row c.args.budget.whole c.args.bound.now.reader c.args.bound.now.key) c.new-weights.ensures in
    rw (line, sample) at c.format.ensures.ok
