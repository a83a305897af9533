use Rattle.std.proofs.Common.{◌∙◌, string_bytes, sym}
use Rattle.std.proofs.lemmas.Result.{IfOk-weaker}
use Rattle.dds_lists.specs.Lists.{Writer}
use Rattle.dds_lists.specs.Views.{writer_view}
use Rattle.dds_xml.specs.Participants.{publisher}
use Rattle.dds_xml.proofs.PlaceLaws.{named_at}
use Rattle.dds_xml.proofs.participants.publisher_at.Goals as goal

pub returns : goal.returns
returns c =
    let d = c.args.lists.now in
    let x = writer_view c.writer-x.result.now in
    IfOk-weaker c.publisher.result _ _
    (λ text is. named_at (λ (y : Writer). y.participant) (publisher d) d.writers.names c.writer_names.result.now d.writers.entries c.args.w c.new.result c.args.p c.number.result x
    c.name_at.result.now (string_bytes text) c.writer_names.ensures c.name_at.ensures c.new.ensures c.writer-x.ensures (sym c.number.ensures) (c.if-number.false ∙ c.number-2.ensures) is)
    c.publisher.ensures
