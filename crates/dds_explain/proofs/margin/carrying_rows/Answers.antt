use Rattle.std.proofs.Common.{◌≡◌, ◌∙◌, IfOk, List, ℕ, ap, flat_map, string_bytes, subst, sym}
use Rattle.std.proofs.lemmas.List.Folds.{flat_map-map}
use Rattle.dds_weights.specs.Views.{row_view}
use Rattle.dds_weights.specs.declared.certificate.Row.{Row}
use Rattle.dds_explain.specs.Margin.{row_margin}
use Rattle.dds_explain.proofs.margin.carrying_rows.Goals as goal

pub returns : goal.returns
returns c =
    subst (λ (l : List ℕ). IfOk c.row_margins.result (λ text. string_bytes text ≡ l))
    (ap (flat_map (λ (row : Row). row_margin c.args.plan.now (row_view row))) c.as_slice.ensures.value
    ∙ sym (flat_map-map (row_margin c.args.plan.now) row_view c.args.certificate.now.rows.items)) c.row_margins.ensures
