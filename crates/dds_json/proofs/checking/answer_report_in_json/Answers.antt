use Rattle.dds_json.proofs.Ends.{report_gives}
use Rattle.dds_json.proofs.checking.answer_report_in_json.Goals as goal

pub returns-clause-gives : goal.returns-clause-gives
returns-clause-gives c =
    report_gives c.args.report c.args.detail c.report_line.result c.answer_with-answer.result c.is_accepted.result c.is_accepted.ensures
    c.answer_with-answer.ensures.answer c.answer_with-answer.ensures.text c.answer_with-answer.ensures.memory c.report_line.ensures
