use Rattle.std.proofs.Common.{◌-◌, refl, string_bytes, subst}
use Rattle.dds_fields.specs.Gives.{Fails}
use Rattle.dds_deploy.specs.Document.{read_up_to}
use Rattle.dds_deploy.specs.Migration.{IsMigrated}
use Rattle.dds_options.specs.Versions.{version_number}
use Rattle.dds_answers.specs.Migrations.{MayMigrate}
use Rattle.dds_answers.proofs.Unread.{is_unread}
use Rattle.dds_tool.proofs.Outcomes.{may_migrate, unread_comes}
use Rattle.dds_tool.proofs.showing.migrate_deployment.Goals as goal

pub returns-in-Ok-clause-comes : goal.returns-in-Ok-clause-comes
returns-in-Ok-clause-comes c =
    let text = string_bytes c.in-Ok.text in
    let is = subst (λ n. IsMigrated n c.args.deployment.now text) c.number.ensures.number c.in-Ok.ensures.text in
    λ names style. (tt, may_migrate (version_number c.args.to) c.args.deployment.now text is)

pub returns-in-Err-clause-comes : goal.returns-in-Err-clause-comes
returns-in-Err-clause-comes c =
    let d = read_up_to (version_number c.args.to - 1) c.args.deployment.now in
    let fails = subst (λ n. Fails c.in-Err.fault (read_up_to (n - 1) c.args.deployment.now)) c.number.ensures.number c.in-Err.ensures.fault in
    unread_comes ⊥ (λ style. MayMigrate (version_number c.args.to) c.args.deployment.now) (λ style flaw. refl) d c.deployment_fault.result
    (is_unread d c.in-Err.fault c.deployment_fault.result fails c.deployment_fault.ensures)
