use Rattle.std.proofs.Common.{◌&&◌, map, sym, ap, ◌∙◌}
use Rattle.std.specs.List.{list_all}
use Rattle.dds_match.specs.Plan.{network_of}
use Rattle.dds_weights.specs.Fits.{row_fits}
use Rattle.dds_weights.specs.Views.{row_view}
use Rattle.dds_weights.proofs.FitLaws.{rows_fit_view}
use Rattle.dds_weights.proofs.fit.named_rows_fit.Goals as goal

pub returns-then-names_differ : goal.returns-then-names_differ
returns-then-names_differ c =
    c.each_row_fits.ensures
    ∙ rows_fit_view (network_of c.args.plan.now) c.args.rows.now
    ∙ ap (λ b. b && list_all (row_fits (network_of c.args.plan.now)) (map row_view c.args.rows.now)) (sym (sym c.names_differ.ensures ∙ c.if-names_differ.true))
