use Rattle.std.proofs.Common.{◌∙◌, ◌&&◌, ◌+◌, not, ap}
use Rattle.std.proofs.lemmas.Result.{IfOk-weaker, on_ok_weaker}
use Rattle.dds_base.specs.Messages.{GapFor, covers}
use Rattle.dds_base.proofs.CountLaws.{count_same}
use Rattle.dds_qos.specs.Reading.{new_by_gap}
use Rattle.dds_reader.specs.Ranges.{has}
use Rattle.dds_reader.specs.Marks.{in_marks}
use Rattle.dds_reader.proofs.ListedLaws.{IsWritten, is_written, not_absent, marked_old, adds_written, writers_written, same_on_err}
use Rattle.dds_reader.proofs.marks.Marks.mark_gap.Goals as goal

pub unreachable-requires : goal.unreachable-requires
unreachable-requires c =
    let writer = c.number.ensures ∙ ap (λ (g : GapFor). g.writer) c.gap.view_is in
    not_absent c.self.inside.of c.args.self.now c.number.result c.args.gap.now.writer c.self.view_is writer c.in-None.ensures.value c.requires

-- the marks of the writer were written
written : (c : goal.After-self-in-Some-1) → IsWritten c.self.inside.of (c.get_mut.follows.lender c.mark_gap.new.self) c.args.self.now c.args.gap.now.writer c.in-Some.ranges.now c.mark_gap.new.self
written c =
    let writer = c.number.ensures ∙ ap (λ (g : GapFor). g.writer) c.gap.view_is in
    is_written _ _ _ c.number.result _ _ _ c.self.invariant c.self.view_is writer c.in-Some.ensures.value (c.get_mut.follows.holds c.mark_gap.new.self)

pub returns-clause-marks : goal.returns-clause-marks
returns-clause-marks c =
    on_ok_weaker c.mark_gap.result (adds_written (written c) (covers c.args.gap.now)) c.mark_gap.ensures.marks

pub returns-clause-count : goal.returns-clause-count
returns-clause-count c =
    let g = c.args.gap.now in
    let old = c.in-Some.ranges.now in
    let p = new_by_gap (has old.base old.above) g in
    let q = new_by_gap (in_marks c.args.self.now g.writer) g in
    IfOk-weaker c.mark_gap.result _ _ (λ k is. is ∙ count_same p q g.start (g.set.base + 256) (λ n _ _. ap (λ b. covers g n && not b) (marked_old (written c) n))) c.mark_gap.ensures.count

pub returns-clause-writers : goal.returns-clause-writers
returns-clause-writers c = writers_written (written c)

pub returns-clause-err : goal.returns-clause-err
returns-clause-err c = same_on_err (written c) c.mark_gap.result c.mark_gap.ensures.err_base c.mark_gap.ensures.err_above
