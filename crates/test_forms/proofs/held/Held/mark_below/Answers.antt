use Rattle.std.proofs.Common.{◌∙◌, ap, sym, not, List}
use Rattle.dds_base.specs.Counts.{count_between}
use Rattle.dds_qos.proofs.BaseLaws.{heartbeat_count_is}
use Rattle.dds_reader.specs.Marks.{Marked}
use Rattle.dds_reader.specs.Marks.{in_marks}
use Rattle.test_forms.proofs.PushLaws.{adds_nothing}
use Rattle.test_forms.proofs.held.Held.mark_below.Goals as goal

pub returns-then-lost-eq0-clause-count : goal.returns-then-lost-eq0-clause-count
returns-then-lost-eq0-clause-count c =
    sym c.if-lost-eq0.true ∙ c.count_unmarked-lost.ensures.exact
    ∙ ap (λ (l : List Marked). count_between (λ n. not (in_marks l c.args.writer n)) 1 c.args.first) c.deref.ensures.value
    ∙ sym (heartbeat_count_is (in_marks c.args.self.now.marks.items c.args.writer) c.args.first)

pub returns-then-lost-eq0-clause-marks : goal.returns-then-lost-eq0-clause-marks
returns-then-lost-eq0-clause-marks c =
    adds_nothing (in_marks c.args.self.now.marks.items) c.args.writer 1 c.args.first
    (sym (ap (λ (l : List Marked). count_between (λ n. not (in_marks l c.args.writer n)) 1 c.args.first) c.deref.ensures.value)
    ∙ sym c.count_unmarked-lost.ensures.exact ∙ c.if-lost-eq0.true)

pub returns-clause-count : goal.returns-clause-count
returns-clause-count c =
    c.count_unmarked-lost.ensures.exact
    ∙ ap (λ (l : List Marked). count_between (λ n. not (in_marks l c.args.writer n)) 1 c.args.first) c.deref.ensures.value
    ∙ sym (heartbeat_count_is (in_marks c.args.self.now.marks.items c.args.writer) c.args.first)
