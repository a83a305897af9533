use Rattle.dds_answers.proofs.Telling.{certificate_told}
use Rattle.dds_answers.proofs.report.judge.Goals as goal

pub returns-in-Err : goal.returns-in-Err
returns-in-Err c = certificate_told c.args.plan _ c.in-Err.fault _ c.in-Err.ensures.answers c.certificate_fault.ensures
