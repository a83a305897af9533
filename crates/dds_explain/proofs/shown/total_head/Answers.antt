use Rattle.std.proofs.Common.{◌≡◌, ◌∙◌, string_bytes, ap, List, ℕ}
use Rattle.dds_base.specs.Grid.{most_keys}
use Rattle.dds_text.specs.Texts.{each_below}
use Rattle.dds_weights.specs.Lists.{Row}
use Rattle.dds_weights.specs.Views.{row_view}
use Rattle.dds_explain.specs.Shown.{reached_sample_line, total_claim, unshown_line}
use Rattle.dds_explain.proofs.shown.total_head.Goals as goal

pub returns : goal.returns
returns c =
    let line : string_bytes c.in_ok-line.line ≡ unshown_line (row_view c.args.row.now) (total_claim c.args.plan.now c.args.total.now) c.args.budget =
    c.in_ok-line.ensures ∙ ap (λ (claim : List ℕ). unshown_line (row_view c.args.row.now) claim c.args.budget) (c.as_str.ensures.value ∙ c.in_ok-claim.ensures) in
    let samples : string_bytes c.in_ok-samples.samples ≡ each_below most_keys (reached_sample_line c.args.plan.now (row_view c.args.row.now) c.args.budget.whole c.args.total.now.reader) =
    c.in_ok-samples.ensures ∙ ap (λ (row : Row). each_below most_keys (reached_sample_line c.args.plan.now row c.args.budget.whole c.args.total.now.reader)) c.new-weights.ensures in
    rw (line, samples) at c.format.ensures.ok
