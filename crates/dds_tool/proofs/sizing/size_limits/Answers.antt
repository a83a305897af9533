use Rattle.std.proofs.Common.{refl}
use Rattle.dds_deploy.specs.Document.{read}
use Rattle.dds_sizing.specs.Limits.{MayLimit}
use Rattle.dds_tool.proofs.Outcomes.{read_comes, unread_comes}
use Rattle.dds_tool.proofs.sizing.size_limits.Goals as goal

pub returns-in-Ok-clause-comes : goal.returns-in-Ok-clause-comes
returns-in-Ok-clause-comes g c =
    read_comes ⊥ (λ style d. MayLimit c.args.what style d) (read c.args.deployment.now) c.in-Ok.plan c.size_plan.result c.in-Ok.ensures.plan c.size_plan.ensures.comes

pub returns-in-Err-clause-comes : goal.returns-in-Err-clause-comes
returns-in-Err-clause-comes g c =
    unread_comes ⊥ (λ style d. MayLimit c.args.what style d) (λ style flaw. refl) (read c.args.deployment.now) c.in-Err.fault c.in-Err.ensures.fault
