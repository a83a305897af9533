use Rattle.dds_conform.proofs.WordLaws.{after_none}
use Rattle.dds_conform.proofs.lines.what_after.Goals as goal

pub returns-clause-none : goal.returns-clause-none
returns-clause-none c = after_none c.what_of.result c.args.lists.now c.args.word.now c.in_ok-after_word.field-0.now c.args.text.now c.in_ok-after_word.ensures.some c.what_of.ensures.none
