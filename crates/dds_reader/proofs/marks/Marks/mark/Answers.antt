use Rattle.std.proofs.Common.{◌∙◌, ℕ, not, ap}
use Rattle.std.proofs.lemmas.Result.{IfOk-weaker, on_ok_weaker}
use Rattle.dds_base.proofs.CountLaws.{count_same}
use Rattle.dds_reader.specs.Ranges.{has, is_between}
use Rattle.dds_reader.specs.Marks.{in_marks}
use Rattle.dds_reader.proofs.ListedLaws.{IsWritten, is_written, not_absent, marked_old, adds_written, writers_written, same_on_err}
use Rattle.dds_reader.proofs.marks.Marks.mark.Goals as goal

pub unreachable-requires : goal.unreachable-requires
unreachable-requires c =
    not_absent c.self.inside.of c.args.self.now c.number.result c.args.writer c.self.view_is c.number.ensures c.in-None.ensures.value c.requires.listed

-- the marks of the writer were written
written : (c : goal.After-self-in-Some-1) → IsWritten c.self.inside.of (c.get_mut.follows.lender c.mark.new.self) c.args.self.now c.args.writer c.in-Some.ranges.now c.mark.new.self
written c = is_written _ _ _ c.number.result _ _ _ c.self.invariant c.self.view_is c.number.ensures c.in-Some.ensures.value (c.get_mut.follows.holds c.mark.new.self)

pub returns-clause-marks : goal.returns-clause-marks
returns-clause-marks c =
    on_ok_weaker c.mark.result (adds_written (written c) (is_between c.args.from c.args.until)) c.mark.ensures.marks

pub returns-clause-count : goal.returns-clause-count
returns-clause-count c =
    let old = c.in-Some.ranges.now in
    let p = λ (n : ℕ). not (has old.base old.above n) in
    let q = λ (n : ℕ). not (in_marks c.args.self.now c.args.writer n) in
    IfOk-weaker c.mark.result _ _ (λ k is. is ∙ count_same p q c.args.from c.args.until (λ n _ _. ap not (marked_old (written c) n))) c.mark.ensures.count

pub returns-clause-writers : goal.returns-clause-writers
returns-clause-writers c = writers_written (written c)

pub returns-clause-err : goal.returns-clause-err
returns-clause-err c = same_on_err (written c) c.mark.result c.mark.ensures.err_base c.mark.ensures.err_above
