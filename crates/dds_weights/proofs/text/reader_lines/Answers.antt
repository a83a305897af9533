use Rattle.std.proofs.Common.{◌≡◌, ◌++◌, [], codes, string_bytes, ap, arith, ◌∙◌}
use Rattle.dds_weights.specs.Lists.{weight_of}
use Rattle.dds_text.specs.Names.{name_at, reader_keys}
use Rattle.dds_weights.specs.Text.{endpoint_lines}
use Rattle.dds_text.proofs.TextLaws.{and_next}
use Rattle.dds_weights.proofs.TextLaws.{lines_same}
use Rattle.dds_weights.proofs.text.reader_lines.Goals as goal

pub loop-r-preserved : goal.loop-r-preserved
loop-r-preserved c =
    let d = c.args.lists.now in
    let r = c.loop-r.r in
    let number : c.new-reader.result ≡ r = c.new-reader.ensures in
    let name : c.name_at-name.result.now ≡ name_at d.readers.names r = c.name_at-name.ensures ∙ ap (λ names. name_at names r) c.reader_names.ensures in
    let keys : c.keys_of_reader-keys.result.now ≡ reader_keys d r = c.keys_of_reader-keys.ensures ∙ ap (reader_keys d) number in
    and_next (λ r. endpoint_lines (codes "reader") (name_at d.readers.names r) (reader_keys d r) (weight_of c.args.weights.now r)) r
    [] (string_bytes c.loop-r.text) (string_bytes c.push_endpoint.new.text)
    c.loop-r.invariant
    (rw (name, keys, number, c.new-table.ensures) at c.in_ok-push_endpoint.ensures
    ∙ ap (λ xs. string_bytes c.loop-r.text ++ xs) (lines_same (codes "reader") (name_at d.readers.names r) (reader_keys d r) c.args.weights.now r))
