use Rattle.dds_sizing.proofs.Founds.{note_given}
use Rattle.dds_sizing.proofs.thorough.answer_missing.Goals as goal

pub returns-clause-note : goal.returns-clause-note
returns-clause-note c = note_given c.args.plan.now c.args.missing c.missing_text.result c.answer_none_with.result c.missing_text.ensures c.answer_none_with.ensures.note c.answer_none_with.ensures.there
