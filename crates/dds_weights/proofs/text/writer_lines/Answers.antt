use Rattle.std.proofs.Common.{◌≡◌, ◌++◌, [], codes, string_bytes, ap, arith, ◌∙◌}
use Rattle.dds_weights.specs.Lists.{weight_of}
use Rattle.dds_text.specs.Names.{name_at, writer_keys}
use Rattle.dds_weights.specs.Text.{endpoint_lines}
use Rattle.dds_text.proofs.TextLaws.{and_next}
use Rattle.dds_weights.proofs.TextLaws.{lines_same}
use Rattle.dds_weights.proofs.text.writer_lines.Goals as goal

pub loop-w-preserved : goal.loop-w-preserved
loop-w-preserved c =
    let d = c.args.lists.now in
    let w = c.loop-w.w in
    let number : c.new-writer.result ≡ w = c.new-writer.ensures in
    let name : c.name_at-name.result.now ≡ name_at d.writers.names w = c.name_at-name.ensures ∙ ap (λ names. name_at names w) c.writer_names.ensures in
    let keys : c.keys_of_writer-keys.result.now ≡ writer_keys d w = c.keys_of_writer-keys.ensures ∙ ap (writer_keys d) number in
    and_next (λ w. endpoint_lines (codes "writer") (name_at d.writers.names w) (writer_keys d w) (weight_of c.args.weights.now w)) w
    [] (string_bytes c.loop-w.text) (string_bytes c.push_endpoint.new.text)
    c.loop-w.invariant
    (rw (name, keys, number, c.new-table.ensures) at c.in_ok-push_endpoint.ensures
    ∙ ap (λ xs. string_bytes c.loop-w.text ++ xs) (lines_same (codes "writer") (name_at d.writers.names w) (writer_keys d w) c.args.weights.now w))
