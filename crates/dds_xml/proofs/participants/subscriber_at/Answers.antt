use Rattle.std.proofs.Common.{◌∙◌, string_bytes, sym}
use Rattle.std.proofs.lemmas.Result.{IfOk-weaker}
use Rattle.dds_lists.specs.Lists.{Reader}
use Rattle.dds_lists.specs.Views.{reader_view}
use Rattle.dds_xml.specs.Participants.{subscriber}
use Rattle.dds_xml.proofs.PlaceLaws.{named_at}
use Rattle.dds_xml.proofs.participants.subscriber_at.Goals as goal

pub returns : goal.returns
returns c =
    let d = c.args.lists.now in
    let x = reader_view c.reader-x.result.now in
    IfOk-weaker c.subscriber.result _ _
    (λ text is. named_at (λ (y : Reader). y.participant) (subscriber d) d.readers.names c.reader_names.result.now d.readers.entries c.args.r c.new.result c.args.p c.number.result x
    c.name_at.result.now (string_bytes text) c.reader_names.ensures c.name_at.ensures c.new.ensures c.reader-x.ensures (sym c.number.ensures) (c.if-number.false ∙ c.number-2.ensures) is)
    c.subscriber.ensures
