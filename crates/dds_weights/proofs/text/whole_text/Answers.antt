use Rattle.std.proofs.Common.{codes, flat_map, string_bytes}
use Rattle.dds_weights.specs.Text.{row_text, bound_text, total_text}
use Rattle.dds_weights.specs.Views.{row_view, certificate_view}
use Rattle.dds_weights.proofs.TextLaws.{and_parts}
use Rattle.dds_weights.proofs.text.whole_text.Goals as goal

pub returns : goal.returns
returns c =
    let d = c.args.lists.now in
    let cert = c.args.certificate.now in
    and_parts (row_text d) row_view cert.rows.items c.deref.result.now (codes "version = 1\n") (flat_map (bound_text d (certificate_view cert)) cert.bounds.items) (flat_map (total_text d (certificate_view cert)) cert.totals.items)
    (string_bytes c.in_ok-text.text) (string_bytes c.push_rows.new.text) (string_bytes c.push_bounds.new.text) (string_bytes c.push_totals.new.text)
    c.in_ok-text.ensures.ok c.deref.ensures.value c.in_ok-push_rows.ensures c.in_ok-push_bounds.ensures c.in_ok-push_totals.ensures
