use Rattle.std.proofs.Common.{◌∙◌, ap, sym, List}
use Rattle.dds_base.specs.Sets.{has}
use Rattle.dds_reader.specs.Marks.{Marked}
use Rattle.dds_reader.specs.Marks.{in_marks}
use Rattle.test_forms.proofs.PushLaws.{adds_marked}
use Rattle.test_forms.proofs.held.Held.mark_one.Goals as goal

pub returns-then-is_in-clause-marks : goal.returns-then-is_in-clause-marks
returns-then-is_in-clause-marks c =
    adds_marked (in_marks c.args.self.now.marks.items) c.args.writer c.args.n (has c.args.set.now)
    (sym (ap (λ (l : List Marked). in_marks l c.args.writer c.args.n) c.deref.ensures.value) ∙ sym c.is_in.ensures ∙ c.if-is_in.true)
