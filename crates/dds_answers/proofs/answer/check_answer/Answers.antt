use Rattle.std.proofs.Common.{subst, sym}
use Rattle.dds_answers.specs.Answers.{Gives}
use Rattle.dds_answers.specs.Outcome.{Outcome, outcome, told}
use Rattle.dds_answers.proofs.Telling.{reported_ends}
use Rattle.dds_answers.proofs.answer.check_answer.Goals as goal

pub returns-in-Ok-clause-gives : goal.returns-in-Ok-clause-gives
returns-in-Ok-clause-gives c = subst (λ (end : Outcome). Gives c.answer_report.result (told c.args.detail end)) (sym c.in-Ok.ensures.tells) c.answer_report.ensures.gives

pub returns-in-Err-clause-gives : goal.returns-in-Err-clause-gives
returns-in-Err-clause-gives c = reported_ends c.args.detail c.in-Err.fault (outcome c.args.deployment.now c.args.certificate.now) c.in-Err.ensures.tells
