use Rattle.std.proofs.Common.{refl, string_bytes}
use Rattle.dds_deploy.specs.Document.{read_up_to}
use Rattle.dds_answers.specs.Migrations.{MayMigrate}
use Rattle.dds_answers.proofs.Migrations.{migration_gives}
use Rattle.dds_answers.proofs.Unread.{is_unread, unread_one}
use Rattle.dds_answers.proofs.answer.migrate_answer.Goals as goal

pub returns-in-Ok-clause-gives : goal.returns-in-Ok-clause-gives
returns-in-Ok-clause-gives c = migration_gives 2 c.args.deployment.now (string_bytes c.in-Ok.text) c.answer_migration.result c.in-Ok.ensures.text c.answer_migration.ensures.gives

pub returns-in-Err-clause-gives : goal.returns-in-Err-clause-gives
returns-in-Err-clause-gives c =
    let d = read_up_to 1 c.args.deployment.now in
    unread_one (MayMigrate 2 c.args.deployment.now) (λ flaw. refl) d c.deployment_fault.result (is_unread d c.in-Err.fault c.deployment_fault.result c.in-Err.ensures.fault c.deployment_fault.ensures)
