use Rattle.std.proofs.Common.{refl}
use Rattle.dds_deploy.specs.Document.{read}
use Rattle.dds_answers.specs.Outcome.{bad_deployment}
use Rattle.dds_answers.specs.Proposals.{MayPropose}
use Rattle.dds_tool.specs.Commands.{MayInStyle}
use Rattle.dds_tool.proofs.Outcomes.{bad_styled, read_comes, unread_comes}
use Rattle.dds_tool.proofs.proposing.propose_certificate.Goals as goal

pub returns-in-Ok-clause-comes : goal.returns-in-Ok-clause-comes
returns-in-Ok-clause-comes c =
    read_comes ⊥ (λ style d. MayInStyle style (MayPropose d)) (read c.args.deployment.now) c.in-Ok.plan c.propose_for.result c.in-Ok.ensures.plan c.propose_for.ensures.comes

pub returns-in-Err-clause-comes : goal.returns-in-Err-clause-comes
returns-in-Err-clause-comes c =
    unread_comes ⊥ (λ style d. MayInStyle style (MayPropose d)) (λ style flaw. (bad_deployment flaw, refl, bad_styled style flaw)) (read c.args.deployment.now) c.in-Err.fault
    c.in-Err.ensures.fault
