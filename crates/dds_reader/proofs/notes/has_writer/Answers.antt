use Rattle.std.proofs.Common.{◌∙◌, sym, ap}
use Rattle.std.specs.Prelude.{is_some}
use Rattle.dds_base.proofs.NumberedLaws.{is_some-position}
use Rattle.dds_reader.proofs.NoteLaws.{Of, placed}
use Rattle.dds_reader.proofs.notes.has_writer.Goals as goal

pub returns : goal.returns
returns c =
    let ps = c.args.proxies.now in
    c.is_some.ensures ∙ ap is_some (sym (placed c.number.result c.args.writer ps c.place_of.result c.number.ensures c.place_of.ensures)) ∙ is_some-position (Of c.args.writer) ps
