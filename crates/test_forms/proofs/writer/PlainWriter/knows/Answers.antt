use Rattle.std.proofs.Common.{ap, ◌∙◌, sym, ◌==◌}
use Rattle.std.specs.List.{list_any}
use Rattle.std.specs.FinSet as set
use Rattle.std.specs.FinSet.{contains-from_list_nat}
use Rattle.dds_writer.specs.Writer.{WriterState}
use Rattle.test_forms.proofs.writer.PlainWriter.knows.Goals as goal

pub returns : goal.returns
returns c =
    c.is_among.ensures ∙ ap (list_any (λ x. x == c.args.key)) c.deref.ensures.value
    ∙ sym (contains-from_list_nat c.self.inside.keys.items c.args.key)
    ∙ ap (λ (v : WriterState). set.contains v.keys c.args.key) c.self.view_is
