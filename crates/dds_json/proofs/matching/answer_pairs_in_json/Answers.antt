use Rattle.dds_json.proofs.Ends.{compared_gives}
use Rattle.dds_json.proofs.matching.answer_pairs_in_json.Goals as goal

pub returns-clause-gives : goal.returns-clause-gives
returns-clause-gives c =
    compared_gives c.args.plan c.match_line.result c.answer_with-answer.result c.is_as_intended.result c.is_as_intended.ensures
    c.answer_with-answer.ensures.answer c.answer_with-answer.ensures.text c.answer_with-answer.ensures.memory c.match_line.ensures
