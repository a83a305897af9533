use Rattle.dds_deploy.specs.Document.{read}
use Rattle.dds_answers.specs.Outcome.{outcome}
use Rattle.dds_answers.proofs.Unread.{unread_told}
use Rattle.dds_answers.proofs.report.answer_check.Goals as goal

pub returns-in-Err : goal.returns-in-Err
unfolding outcome
returns-in-Err c = unread_told (read c.args.deployment.now) c.args.certificate.now c.in-Err.fault c.in-Err.ensures.fault
