use Rattle.std.proofs.Common.{◌∙◌, ◌+◌, [], length, sym, subst, arith}
use Rattle.std.specs.Str.Lines.{lines}
use Rattle.std.proofs.lemmas.Iterator.Consumers.{YieldsList-end, YieldsList-turn}
use Rattle.std.proofs.lemmas.Iterator.Splits.{YieldsList-from_lines}
use Rattle.std.proofs.lemmas.List.{length_push, take_all}
use Rattle.dds_conform.specs.Reading.{AreEntries}
use Rattle.dds_conform.proofs.Told.{and_entry, and_nothing, fault_of, no_lines, of_error}
use Rattle.dds_conform.proofs.reading.push_lines.Goals as goal

pub loop-line-init : goal.loop-line-init
loop-line-init c = record { count = omega arith; entries = subst (AreEntries c.args.plan.now []) (sym c.requires) (no_lines c.args.plan.now) }

pub returns-in_err-push_line-clause-fault : goal.returns-in_err-push_line-clause-fault
returns-in_err-push_line-clause-fault c =
    let t = YieldsList-turn (YieldsList-from_lines {s = c.into_iter-line-iterator.result} c.args.text.now (cc)) c.loop-line.yielded _ c.loop-line.yielded_by _ _ c.in-Some.line c.in-Some.is c.next.ensures.steps in
    let says = sym c.says_something.ensures ∙ c.if-says_something.true in
    of_error c.from_residual.result _ _
    (λ e is. fault_of c.args.plan.now (lines c.args.text.now) (length c.loop-line.yielded) (c.loop-line.number + 1) c.in-Some.line.now c.loop-line.entries.items e t.0 t.1 says (let n = c.loop-line.invariant.count in omega arith)
    c.loop-line.invariant.entries (rw is c.in_err-push_line.ensures.fault))
    c.from_residual.ensures.1

pub loop-line-preserved-in-Continue-1 : goal.loop-line-preserved-in-Continue-1
loop-line-preserved-in-Continue-1 c =
    let t = YieldsList-turn (YieldsList-from_lines {s = c.into_iter-line-iterator.result} c.args.text.now (cc)) c.loop-line.yielded _ c.loop-line.yielded_by _ _ c.in-Some.line c.in-Some.is c.next.ensures.steps in
    let n = length_push c.loop-line.yielded c.in-Some.line in
    let says = sym c.says_something.ensures ∙ c.if-says_something.true in
    let told = c.in_ok-push_line.ensures.entry in
    record {
      count = omega (arith, n, c.loop-line.invariant.count);
      entries = rw n (and_entry c.args.plan.now (lines c.args.text.now) (length c.loop-line.yielded) (c.loop-line.number + 1) c.in-Some.line.now c.loop-line.entries.items c.push_line.new.entries.items told.0 t.0 t.1 says
          (let m = c.loop-line.invariant.count in omega arith) told.1 told.2 told.3 told.4 c.loop-line.invariant.entries);
    }

pub loop-line-preserved : goal.loop-line-preserved
loop-line-preserved c =
    let t = YieldsList-turn (YieldsList-from_lines {s = c.into_iter-line-iterator.result} c.args.text.now (cc)) c.loop-line.yielded _ c.loop-line.yielded_by _ _ c.in-Some.line c.in-Some.is c.next.ensures.steps in
    let n = length_push c.loop-line.yielded c.in-Some.line in
    let says = sym c.says_something.ensures ∙ c.if-says_something.false in
    record {
      count = omega (arith, n, c.loop-line.invariant.count);
      entries = rw n (and_nothing c.args.plan.now (lines c.args.text.now) (length c.loop-line.yielded) c.in-Some.line.now c.loop-line.entries.items t.0 t.1 says c.loop-line.invariant.entries);
    }

pub returns-clause-entries : goal.returns-clause-entries
returns-clause-entries c =
    let t = YieldsList-end (YieldsList-from_lines {s = c.into_iter-line-iterator.result} c.args.text.now (cc)) c.loop-line.yielded _ c.loop-line.yielded_by _ _ c.in-None.is c.next.ensures.steps in
    subst (λ ls. AreEntries c.args.plan.now ls c.loop-line.entries.items) (take_all (length c.loop-line.yielded) (lines c.args.text.now) (omega (arith, t.1))) c.loop-line.invariant.entries
