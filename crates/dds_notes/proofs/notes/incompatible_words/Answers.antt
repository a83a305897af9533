use Rattle.std.proofs.Common.{◌≡◌, ◌∙◌, ap}
use Rattle.dds_lists.specs.Lists.{Lists}
use Rattle.dds_text.specs.Names.{reader_name, writer_name}
use Rattle.dds_notes.proofs.notes.incompatible_words.Goals as goal

pub returns : goal.returns
returns c =
    let writer : c.writer_name-writer.result.now ≡ writer_name c.args.plan.now c.args.writer =
    c.writer_name-writer.ensures ∙ ap (λ (d : Lists). writer_name d c.args.writer) c.lists.ensures.value in
    let reader : c.reader_name-reader.result.now ≡ reader_name c.args.plan.now c.args.reader =
    c.reader_name-reader.ensures ∙ ap (λ (d : Lists). reader_name d c.args.reader) c.lists-2.ensures.value in
    rw (writer, reader, c.in_ok-reason.ensures) at c.format.ensures.ok
