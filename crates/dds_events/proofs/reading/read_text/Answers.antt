use Rattle.std.proofs.Common.{◌∙◌, ap, length, sym, arith}
use Rattle.std.specs.Str.Lines.{lines}
use Rattle.std.proofs.lemmas.Iterator.Consumers.{YieldsList-end, YieldsList-turn}
use Rattle.std.proofs.lemmas.Iterator.Splits.{YieldsList-from_lines}
use Rattle.std.proofs.lemmas.List.{length_push, take_all}
use Rattle.dds_events.specs.Reading.{said_by}
use Rattle.dds_events.proofs.Said.{and_event, and_known, and_none, and_nothing, fault_of, of_error}
use Rattle.dds_events.proofs.reading.read_text.Goals as goal

pub returns-in_err-read_line-clause-fault : goal.returns-in_err-read_line-clause-fault
returns-in_err-read_line-clause-fault c =
    let t = YieldsList-turn (YieldsList-from_lines {s = c.into_iter-line-iterator.result} c.args.text.now (cc)) c.loop-line.yielded _ c.loop-line.yielded_by _ _ c.in-Some.line c.in-Some.is c.next.ensures.steps in
    let says = sym c.says_something.ensures ∙ c.if-says_something.true in
    of_error c.from_residual.result _ _
    (λ e is. fault_of c.args.lists.now c.args.text.now (length c.loop-line.yielded) c.loop-line.number c.in-Some.line.now c.loop-line.events.items e t.0 t.1 says c.loop-line.invariant.3 c.loop-line.invariant.1
    c.in_err-read_line.ensures.none c.loop-line.invariant.0 (rw is c.in_err-read_line.ensures.fault))
    c.from_residual.ensures.1

pub loop-line-preserved-in_ok-push : goal.loop-line-preserved-in_ok-push
loop-line-preserved-in_ok-push c =
    let t = YieldsList-turn (YieldsList-from_lines {s = c.into_iter-line-iterator.result} c.args.text.now (cc)) c.loop-line.yielded _ c.loop-line.yielded_by _ _ c.in-Some.line c.in-Some.is c.next.ensures.steps in
    let n = length_push c.loop-line.yielded c.in-Some.line in
    let says = sym c.says_something.ensures ∙ c.if-says_something.true in (
      omega (arith, n, c.loop-line.invariant.0),
      rw n (and_event c.args.lists.now (lines c.args.text.now) (length c.loop-line.yielded) c.in-Some.line.now c.loop-line.events.items _ c.in_ok-read_line.field-0 t.0 t.1 says c.in_ok-read_line.ensures.event.0
          c.in_ok-push.ensures.items c.loop-line.invariant.1),
      and_none c.loop-line.events.items _ c.in_ok-read_line.field-0 c.loop-line.invariant.2 c.in_ok-read_line.ensures.event.1 c.in_ok-push.ensures.items,
      and_known c.args.lists.now c.loop-line.events.items _ c.in_ok-read_line.field-0 c.loop-line.invariant.3 c.in_ok-read_line.ensures.known c.in_ok-push.ensures.items,
    )

pub loop-line-preserved : goal.loop-line-preserved
loop-line-preserved c =
    let t = YieldsList-turn (YieldsList-from_lines {s = c.into_iter-line-iterator.result} c.args.text.now (cc)) c.loop-line.yielded _ c.loop-line.yielded_by _ _ c.in-Some.line c.in-Some.is c.next.ensures.steps in
    let n = length_push c.loop-line.yielded c.in-Some.line in
    let says = sym c.says_something.ensures ∙ c.if-says_something.false in (
      omega (arith, n, c.loop-line.invariant.0),
      rw n (and_nothing (lines c.args.text.now) (length c.loop-line.yielded) c.in-Some.line.now _ t.0 t.1 says c.loop-line.invariant.1),
      c.loop-line.invariant.2,
      c.loop-line.invariant.3,
    )

pub returns-clause-events : goal.returns-clause-events
returns-clause-events c =
    let t = YieldsList-end (YieldsList-from_lines {s = c.into_iter-line-iterator.result} c.args.text.now (cc)) c.loop-line.yielded _ c.loop-line.yielded_by _ _ c.in-None.is c.next.ensures.steps in
    c.loop-line.invariant.1 ∙ ap said_by (take_all (length c.loop-line.yielded) (lines c.args.text.now) (omega (arith, t.1)))
