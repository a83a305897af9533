use Rattle.std.proofs.Common.{◌∙◌, ◌+◌, length, sym, arith}
use Rattle.std.specs.Str.Lines.{lines}
use Rattle.std.proofs.lemmas.Iterator.Consumers.{YieldsList-end, YieldsList-turn}
use Rattle.std.proofs.lemmas.Iterator.Splits.{YieldsList-from_lines}
use Rattle.std.proofs.lemmas.List.{length_push}
use Rattle.dds_conform.proofs.Stamped.{all_stamps, and_silence, and_stamp, no_stamps}
use Rattle.dds_conform.proofs.stamps.push_stamps.Goals as goal

pub loop-line-init : goal.loop-line-init
loop-line-init c = record { count = omega arith; stamps = no_stamps (lines c.args.text.now) c.args.times.now.items c.requires }

pub loop-line-preserved-in-Continue-1 : goal.loop-line-preserved-in-Continue-1
loop-line-preserved-in-Continue-1 c =
    let t = YieldsList-turn (YieldsList-from_lines {s = c.into_iter-line-iterator.result} c.args.text.now (cc)) c.loop-line.yielded _ c.loop-line.yielded_by _ _ c.in-Some.line c.in-Some.is c.next.ensures.steps in
    let n = length_push c.loop-line.yielded c.in-Some.line in
    let says = sym c.says_something.ensures ∙ c.if-says_something.true in
    record {
      count = omega (arith, n, c.loop-line.invariant.count);
      stamps = rw n (and_stamp (lines c.args.text.now) (length c.loop-line.yielded) (c.loop-line.number + 1) c.in-Some.line.now c.loop-line.times.items c.push_stamp.new.times.items c.loop-line.lacking c.push_stamp.new.lacking t.0 t.1 says (let m = c.loop-line.invariant.count in omega arith) c.in_ok-push_stamp.ensures c.loop-line.invariant.stamps);
    }

pub loop-line-preserved : goal.loop-line-preserved
loop-line-preserved c =
    let t = YieldsList-turn (YieldsList-from_lines {s = c.into_iter-line-iterator.result} c.args.text.now (cc)) c.loop-line.yielded _ c.loop-line.yielded_by _ _ c.in-Some.line c.in-Some.is c.next.ensures.steps in
    let n = length_push c.loop-line.yielded c.in-Some.line in
    let says = sym c.says_something.ensures ∙ c.if-says_something.false in
    record {
      count = omega (arith, n, c.loop-line.invariant.count);
      stamps = rw n (and_silence (lines c.args.text.now) (length c.loop-line.yielded) c.in-Some.line.now c.loop-line.times.items c.loop-line.lacking t.0 t.1 says c.loop-line.invariant.stamps);
    }

pub returns : goal.returns
returns c =
    let t = YieldsList-end (YieldsList-from_lines {s = c.into_iter-line-iterator.result} c.args.text.now (cc)) c.loop-line.yielded _ c.loop-line.yielded_by _ _ c.in-None.is c.next.ensures.steps in
    all_stamps (lines c.args.text.now) (length c.loop-line.yielded) c.loop-line.times.items c.loop-line.lacking (omega (arith, t.1)) c.loop-line.invariant.stamps
