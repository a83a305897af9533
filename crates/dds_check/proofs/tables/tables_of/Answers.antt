use Rattle.std.proofs.Common.{Some, option_map, ap, sym, ◌∙◌}
use Rattle.std.proofs.lemmas.Option.{slice_get-map}
use Rattle.dds_weights.specs.Views.{row_view}
use Rattle.dds_check.proofs.tables.tables_of.Goals as goal

pub returns : goal.returns
returns c =
    let rows = c.args.certificate.now.rows.items in
    slice_get-map row_view rows c.args.n ∙ ap (option_map row_view) c.row_at.ensures ∙ ap Some (sym c.new.ensures)
