use Rattle.std.proofs.Common.{◌∙◌, ◌+◌, Some}
use Rattle.std.proofs.lemmas.Result.{on_ok_weaker}
use Rattle.dds_reader.specs.Ranges.{is_between}
use Rattle.dds_reader.proofs.ListedLaws.{IsWritten, is_written, not_absent, marked_found, adds_written, writers_written, same_on_err}
use Rattle.dds_reader.proofs.marks.Marks.store.Goals as goal

pub unreachable-requires : goal.unreachable-requires
unreachable-requires c =
    not_absent c.self.inside.of c.args.self.now c.number.result c.args.sample.now.writer c.self.view_is c.number.ensures c.in-None.ensures.value c.requires.known

pub store-requires-clause-unmarked : goal.store-requires-clause-unmarked
store-requires-clause-unmarked c =
    let x = c.args.sample.now in
    marked_found c.self.inside.of c.args.self.now c.number.result x.writer x.sn (Some c.in-Some.ranges.now) c.self.invariant c.self.view_is c.number.ensures c.in-Some.ensures.value ∙ c.requires.unmarked

-- the marks of the writer were written
written : (c : goal.After-self-in-Some-1) → IsWritten c.self.inside.of (c.get_mut.follows.lender c.store.new.self) c.args.self.now c.args.sample.now.writer c.in-Some.ranges.now c.store.new.self
written c = is_written _ _ _ c.number.result _ _ _ c.self.invariant c.self.view_is c.number.ensures c.in-Some.ensures.value (c.get_mut.follows.holds c.store.new.self)

pub returns-clause-marks : goal.returns-clause-marks
returns-clause-marks c =
    on_ok_weaker c.store.result (adds_written (written c) (is_between c.args.from (c.args.sample.now.sn + 1))) c.store.ensures.marks

pub returns-clause-writers : goal.returns-clause-writers
returns-clause-writers c = writers_written (written c)

pub returns-clause-err : goal.returns-clause-err
returns-clause-err c = same_on_err (written c) c.store.result c.store.ensures.err_base c.store.ensures.err_above
