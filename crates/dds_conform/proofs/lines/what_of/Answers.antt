use Rattle.dds_conform.proofs.WordLaws.{says_none}
use Rattle.dds_conform.proofs.lines.what_of.Goals as goal

pub returns-in-None-clause-none : goal.returns-in-None-clause-none
returns-in-None-clause-none c = says_none c.args.lists.now c.args.text.now c.in-None.ensures.none
