use Rattle.std.proofs.Common.{◌∙◌, [], ◌∷◌, ◌++◌, length, lit<, ap, refl, arith}
use Rattle.std.specs.List.{list_any}
use Rattle.std.proofs.lemmas.List.{length_push, take_all}
use Rattle.std.proofs.lemmas.Iterator.Consumers.{YieldsList-turn, YieldsList-end}
use Rattle.std.proofs.lemmas.Iterator.Splits.{YieldsList-from_str_split}
use Rattle.dds_options.specs.Allowed.{lets_pass, words_of}
use Rattle.dds_options.proofs.WordLaws.{any_found, any_kept}
use Rattle.dds_options.proofs.allowed.Allowed.has.Goals as goal

pub loop-word-init : goal.loop-word-init
loop-word-init c = refl

pub loop-word-preserved-then-here : goal.loop-word-preserved-then-here
loop-word-preserved-then-here c =
    let t = YieldsList-turn (YieldsList-from_str_split {s = c.into_iter-word-iterator.result} 44 c.args.self.now (lit< tt) (cc) (cc) (cc)) c.loop-word.yielded _ c.loop-word.yielded_by _ _ c.in-Some.word c.in-Some.is c.next.ensures.steps in
    any_found (lets_pass c.args.kind c.args.subject.now) c.args.self.now (length c.loop-word.yielded) (length (c.loop-word.yielded ++ c.in-Some.word ∷ [])) c.in-Some.word.now c.lets_pass-here.result c.loop-word.any
    t.0 (length_push c.loop-word.yielded c.in-Some.word) t.1 c.lets_pass-here.ensures c.loop-word.invariant c.if-here.true

pub loop-word-preserved : goal.loop-word-preserved
loop-word-preserved c =
    let t = YieldsList-turn (YieldsList-from_str_split {s = c.into_iter-word-iterator.result} 44 c.args.self.now (lit< tt) (cc) (cc) (cc)) c.loop-word.yielded _ c.loop-word.yielded_by _ _ c.in-Some.word c.in-Some.is c.next.ensures.steps in
    any_kept (lets_pass c.args.kind c.args.subject.now) c.args.self.now (length c.loop-word.yielded) (length (c.loop-word.yielded ++ c.in-Some.word ∷ [])) c.in-Some.word.now c.lets_pass-here.result c.loop-word.any
    t.0 (length_push c.loop-word.yielded c.in-Some.word) t.1 c.lets_pass-here.ensures c.loop-word.invariant c.if-here.false

pub returns : goal.returns
returns c =
    let t = YieldsList-end (YieldsList-from_str_split {s = c.into_iter-word-iterator.result} 44 c.args.self.now (lit< tt) (cc) (cc) (cc)) c.loop-word.yielded _ c.loop-word.yielded_by _ _ c.in-None.is c.next.ensures.steps in
    c.loop-word.invariant ∙ ap (list_any (lets_pass c.args.kind c.args.subject.now)) (take_all (length c.loop-word.yielded) (words_of c.args.self.now) (omega (arith, t.1)))
