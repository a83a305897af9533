use Rattle.dds_deploy.specs.Document.{read}
use Rattle.dds_answers.proofs.Unread.{is_unread, planned_of, unplanned}
use Rattle.dds_answers.proofs.planning.read_plan.Goals as goal

pub returns-in-Ok-clause-plan : goal.returns-in-Ok-clause-plan
returns-in-Ok-clause-plan c = planned_of (read c.args.deployment.now) c.in-Ok.lists c.plan_of.result c.in-Ok.ensures c.plan_of.ensures.plan

pub returns-in-Ok-clause-fault : goal.returns-in-Ok-clause-fault
returns-in-Ok-clause-fault c = unplanned (read c.args.deployment.now) c.plan_of.result c.plan_of.ensures.memory

pub returns-in-Err-clause-fault : goal.returns-in-Err-clause-fault
returns-in-Err-clause-fault c = is_unread (read c.args.deployment.now) c.in-Err.fault c.deployment_fault.result c.in-Err.ensures c.deployment_fault.ensures
