use Rattle.std.proofs.Common.{◌∙◌, arith, sym}
use Rattle.std.proofs.lemmas.Str.Pattern.{split_once_first}
use Rattle.dds_options.proofs.WordLaws.{parts_yes, whole_yes}
use Rattle.dds_options.proofs.allowed.is_note_word.Goals as goal

pub returns-then-not-is_empty-clause-yes : goal.returns-then-not-is_empty-clause-yes
returns-then-not-is_empty-clause-yes c =
    let parts = rw c.in-Some.is at (split_once_first 58 c.args.word.now c.split_once.result c.split_once.ensures.cases (omega arith)) in
    parts_yes c.args.word.now c.in-Some.kind.now c.in-Some.subject.now c.named.result c.is_some.result parts c.named.ensures.some (sym c.is_empty.ensures ∙ c.if-not-is_empty.true) c.is_some.ensures

pub returns-in-None-clause-yes : goal.returns-in-None-clause-yes
returns-in-None-clause-yes c = whole_yes c.args.word.now c.named-in-None.result c.is_some-in-None.result c.named-in-None.ensures.some c.is_some-in-None.ensures
