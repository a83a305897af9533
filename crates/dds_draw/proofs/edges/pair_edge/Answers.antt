use Rattle.std.proofs.Common.{◌≡◌, ◌∙◌, ap}
use Rattle.dds_text.specs.Names.{reader_name, writer_name}
use Rattle.dds_draw.specs.Edges.{pair_edge}
use Rattle.dds_draw.proofs.edges.pair_edge.Goals as goal

pub returns : goal.returns
unfolding pair_edge
returns c =
    let d = c.args.plan.now in
    let lists = c.lists-lists.ensures.value in
    let writer : c.writer_name.result.now ≡ writer_name d c.args.writer = c.writer_name.ensures ∙ ap (λ x. writer_name x c.args.writer) lists in
    let reader : c.reader_name.result.now ≡ reader_name d c.args.reader = c.reader_name.ensures ∙ ap (λ x. reader_name x c.args.reader) lists in
    rw (writer, reader, c.intended.ensures, c.why_not.ensures) at c.edge_of.ensures
