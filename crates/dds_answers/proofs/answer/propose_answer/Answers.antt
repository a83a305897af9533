use Rattle.dds_deploy.specs.Document.{read}
use Rattle.dds_answers.specs.Proposals.{IsProposed}
use Rattle.dds_answers.proofs.Proposals.{sought_of, unread_seeks}
use Rattle.dds_answers.proofs.answer.propose_answer.Goals as goal

pub returns-clause-gives : goal.returns-clause-gives
returns-clause-gives c = sought_of IsProposed (read c.args.deployment.now) c.in_ok-plan.plan c.propose_for.result c.in_ok-plan.ensures.plan c.propose_for.ensures.gives

pub returns-in_err-plan-clause-gives : goal.returns-in_err-plan-clause-gives
returns-in_err-plan-clause-gives c =
    unread_seeks IsProposed (read c.args.deployment.now) c.from_residual.result c.in_err-plan.field-0.0 c.from_residual.ensures.1 c.in_err-plan.ensures.fault
