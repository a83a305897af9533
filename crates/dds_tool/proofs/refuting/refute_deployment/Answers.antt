use Rattle.std.proofs.Common.{refl}
use Rattle.dds_deploy.specs.Document.{read}
use Rattle.dds_tool.specs.Refuting.{MayRefute}
use Rattle.dds_tool.proofs.Outcomes.{read_comes, unread_comes}
use Rattle.dds_tool.proofs.refuting.refute_deployment.Goals as goal

pub returns-in-Ok-clause-comes : goal.returns-in-Ok-clause-comes
returns-in-Ok-clause-comes g c =
    read_comes ⊥ (λ style d. MayRefute style d) (read c.args.deployment.now) c.in-Ok.plan c.refute_plan.result c.in-Ok.ensures.plan c.refute_plan.ensures.comes

pub returns-in-Err-clause-comes : goal.returns-in-Err-clause-comes
returns-in-Err-clause-comes g c = unread_comes ⊥ (λ style d. MayRefute style d) (λ style flaw. refl) (read c.args.deployment.now) c.in-Err.fault c.in-Err.ensures.fault
