use Rattle.std.proofs.Common.{◌∙◌, ap, sym, not, List}
use Rattle.dds_base.specs.Counts.{count_between}
use Rattle.dds_reader.specs.Marks.{Marked}
use Rattle.dds_reader.specs.Marks.{in_marks}
use Rattle.test_forms.proofs.PushLaws.{adds_nothing}
use Rattle.test_forms.proofs.held.Held.mark_range.Goals as goal

pub returns-then-fresh-eq0-clause-marks : goal.returns-then-fresh-eq0-clause-marks
returns-then-fresh-eq0-clause-marks c =
    adds_nothing (in_marks c.args.self.now.marks.items) c.args.writer c.args.from c.args.until
    (sym (ap (λ (l : List Marked). count_between (λ n. not (in_marks l c.args.writer n)) c.args.from c.args.until) c.deref.ensures.value)
    ∙ sym c.count_unmarked-fresh.ensures.exact ∙ c.if-fresh-eq0.true)
