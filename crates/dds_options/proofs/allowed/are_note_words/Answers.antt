use Rattle.std.proofs.Common.{arith, length, lit<}
use Rattle.std.proofs.lemmas.Iterator.Consumers.{YieldsList-turn, YieldsList-end}
use Rattle.std.proofs.lemmas.List.{length_push}
use Rattle.std.proofs.lemmas.Iterator.Splits.{YieldsList-from_str_split}
use Rattle.dds_options.proofs.WordLaws.{all_more, not_all}
use Rattle.dds_options.proofs.allowed.are_note_words.Goals as goal

pub loop-word-init : goal.loop-word-init
loop-word-init c = λ k d lt. absurd (omega (arith, lt))

pub returns-then-not-is_note_word-clause-no : goal.returns-then-not-is_note_word-clause-no
returns-then-not-is_note_word-clause-no c =
    let t = YieldsList-turn (YieldsList-from_str_split {s = c.into_iter-word-iterator.result} 44 c.args.text.now (lit< tt) (cc) (cc) (cc)) c.loop-word.yielded _ c.loop-word.yielded_by _ _ c.in-Some.word c.in-Some.is c.next.ensures.steps in
    λ same. not_all c.args.text.now (length c.loop-word.yielded) c.in-Some.word.now t.0 t.1 (c.is_note_word.ensures.no c.if-not-is_note_word.true)

pub loop-word-preserved : goal.loop-word-preserved
loop-word-preserved c =
    let t = YieldsList-turn (YieldsList-from_str_split {s = c.into_iter-word-iterator.result} 44 c.args.text.now (lit< tt) (cc) (cc) (cc)) c.loop-word.yielded _ c.loop-word.yielded_by _ _ c.in-Some.word c.in-Some.is c.next.ensures.steps in
    λ k d lt. all_more c.args.text.now (length c.loop-word.yielded) c.in-Some.word.now t.0 t.1 (c.is_note_word.ensures.yes c.if-not-is_note_word.false) c.loop-word.invariant k d
    (omega (arith, lt, length_push c.loop-word.yielded c.in-Some.word))

pub returns-clause-yes : goal.returns-clause-yes
returns-clause-yes c =
    let t = YieldsList-end (YieldsList-from_str_split {s = c.into_iter-word-iterator.result} 44 c.args.text.now (lit< tt) (cc) (cc) (cc)) c.loop-word.yielded _ c.loop-word.yielded_by _ _ c.in-None.is c.next.ensures.steps in
    λ same k d lt. c.loop-word.invariant k d (omega (arith, lt, t.1))
