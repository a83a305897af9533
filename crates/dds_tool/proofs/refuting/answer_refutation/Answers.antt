use Rattle.dds_json.proofs.Ends.{line_gives}
use Rattle.dds_tool.specs.Refuting.{is_safe, told_known}
use Rattle.dds_tool.proofs.refuting.answer_refutation.Goals as goal

pub returns-clause-gives : goal.returns-clause-gives
returns-clause-gives c =
    line_gives c.known_in_style.result c.answer_with-answer.result (told_known c.args.style c.args.plan c.args.refutation) (is_safe c.args.refutation) c.is_safe.result c.is_safe.ensures
    c.answer_with-answer.ensures.answer c.answer_with-answer.ensures.text c.answer_with-answer.ensures.memory c.known_in_style.ensures
