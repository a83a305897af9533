use Rattle.std.proofs.Common.{◌≡◌, option_map, refl}
use Rattle.dds_deploy.specs.Document.{read}
use Rattle.dds_answers.specs.Outcome.{drawing}
use Rattle.dds_tool.proofs.Outcomes.{read_comes, unread_comes}
use Rattle.dds_tool.proofs.showing.draw_deployment.Goals as goal

pub returns-in-Ok-clause-comes : goal.returns-in-Ok-clause-comes
returns-in-Ok-clause-comes c =
    read_comes ⊥ (λ style d end. end ≡ drawing d (option_map (λ x. x.now) c.args.certificate)) (read c.args.deployment.now) c.in-Ok.plan c.draw_plan.result c.in-Ok.ensures.plan
    c.draw_plan.ensures.comes

pub returns-in-Err-clause-comes : goal.returns-in-Err-clause-comes
returns-in-Err-clause-comes c =
    unread_comes ⊥ (λ style d end. end ≡ drawing d (option_map (λ x. x.now) c.args.certificate)) (λ style flaw. refl) (read c.args.deployment.now) c.in-Err.fault c.in-Err.ensures.fault
