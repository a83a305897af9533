use Rattle.std.proofs.Common.{◌≡◌, ap, refl, sym}
use Rattle.dds_deploy.specs.Document.{read}
use Rattle.dds_fields.specs.Reading.{Read}
use Rattle.dds_lists.specs.Lists.{Lists}
use Rattle.dds_answers.specs.Outcome.{showing}
use Rattle.dds_answers.proofs.Unread.{is_unread}
use Rattle.dds_tool.proofs.Outcomes.{unread_comes}
use Rattle.dds_tool.proofs.showing.show_deployment.Goals as goal

pub returns-in-Ok-clause-comes : goal.returns-in-Ok-clause-comes
returns-in-Ok-clause-comes c = λ names style. (tt, ap (λ (d : Read Lists). showing c.args.format d) (sym c.in-Ok.ensures))

pub returns-in-Err-clause-comes : goal.returns-in-Err-clause-comes
returns-in-Err-clause-comes c =
    let d = read c.args.deployment.now in
    unread_comes ⊥ (λ style d end. end ≡ showing c.args.format d) (λ style flaw. refl) d c.deployment_fault.result
    (is_unread d c.in-Err.fault c.deployment_fault.result c.in-Err.ensures c.deployment_fault.ensures)
