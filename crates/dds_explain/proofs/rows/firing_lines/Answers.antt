use Rattle.std.proofs.Common.{◌≡◌, ◌∙◌, string_bytes, ap, List, ℕ, flat_map}
use Rattle.dds_base.specs.declared.portion.Portion.{Portion}
use Rattle.dds_lists.specs.Lists.{Lists}
use Rattle.dds_lists.specs.Views.{rule_view}
use Rattle.dds_weights.specs.Views.{row_view}
use Rattle.dds_text.specs.Names.{rule_text}
use Rattle.dds_explain.specs.Rows.{firing_line, take_term, write_term}
use Rattle.dds_explain.proofs.rows.firing_lines.Goals as goal

pub returns : goal.returns
returns c =
    let line : string_bytes c.in_ok-line.line ≡ firing_line (row_view c.args.row.now) (rule_text c.args.plan.now c.args.u) (rule_view c.args.rule.now) =
    c.in_ok-line.ensures ∙ ap (λ (name : List ℕ). firing_line (row_view c.args.row.now) name (rule_view c.args.rule.now)) (c.as_str.ensures.value ∙ (c.in_ok-name.ensures ∙ ap (λ (d : Lists). rule_text d c.args.u) c.lists.ensures.value)) in
    let writes : string_bytes c.in_ok-writes.writes ≡ flat_map (write_term c.args.plan.now (row_view c.args.row.now)) c.args.rule.now.writes.items =
    c.in_ok-writes.ensures ∙ ap (λ (xs : List (Portion ℕ)). flat_map (write_term c.args.plan.now (row_view c.args.row.now)) xs) c.as_slice.ensures.value in
    let takes : string_bytes c.in_ok-takes.takes ≡ flat_map (take_term c.args.plan.now (row_view c.args.row.now)) c.args.rule.now.takes.items =
    c.in_ok-takes.ensures ∙ ap (λ (xs : List (Portion ℕ)). flat_map (take_term c.args.plan.now (row_view c.args.row.now)) xs) c.as_slice-2.ensures.value in
    rw (line, writes, takes) at c.format.ensures.ok
