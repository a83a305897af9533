use Rattle.std.proofs.Common.{◌∙◌, [], ap, arith, flat_map, length, string_bytes, ◌++◌}
use Rattle.std.specs.List.{zip}
use Rattle.std.proofs.lemmas.Iterator.{YieldsList-from_slice, YieldsList-from_zip}
use Rattle.std.proofs.lemmas.Iterator.Consumers.{YieldsList-end, YieldsList-turn}
use Rattle.std.proofs.lemmas.List.{length_push, take_all}
use Rattle.dds_text.proofs.TextLaws.{and_element}
use Rattle.dds_events.specs.Lines.{line_of_pair}
use Rattle.dds_events.proofs.lines.lines_text.Goals as goal

pub loop-event-preserved : goal.loop-event-preserved
loop-event-preserved c =
    let t = YieldsList-turn (YieldsList-from_zip {s = c.into_iter-event-iterator.result} (YieldsList-from_slice {s = c.into_iter-event-iterator.result.a} c.args.events.now (cc))
    (YieldsList-from_slice {s = c.into_iter-event-iterator.result.b} c.args.replies.now (cc)))
    c.loop-event.yielded c.loop-event.event-iterator c.loop-event.yielded_by _ c.next.new.self (c.in-Some.event, c.in-Some.reply) c.in-Some.is c.next.ensures.steps in
    let n = length_push c.loop-event.yielded (c.in-Some.event, c.in-Some.reply) in
    rw n (and_element (line_of_pair c.args.lists.now) (zip c.args.events.now c.args.replies.now) (length c.loop-event.yielded) (c.in-Some.event.now, c.in-Some.reply.now) [] (string_bytes c.loop-event.text)
    (string_bytes c.in_ok-line.line) (string_bytes c.push_str.new.self) t.0 t.1 c.loop-event.invariant c.in_ok-line.ensures
    (c.in_ok-push_str.ensures.bytes ∙ ap (λ line. string_bytes c.loop-event.text ++ line) c.as_str.ensures.value))

pub returns : goal.returns
returns c =
    let t = YieldsList-end (YieldsList-from_zip {s = c.into_iter-event-iterator.result} (YieldsList-from_slice {s = c.into_iter-event-iterator.result.a} c.args.events.now (cc))
    (YieldsList-from_slice {s = c.into_iter-event-iterator.result.b} c.args.replies.now (cc)))
    c.loop-event.yielded c.loop-event.event-iterator c.loop-event.yielded_by _ c.next.new.self c.in-None.is c.next.ensures.steps in
    c.loop-event.invariant ∙ ap (flat_map (line_of_pair c.args.lists.now)) (take_all (length c.loop-event.yielded) (zip c.args.events.now c.args.replies.now) (omega (arith, t.1)))
