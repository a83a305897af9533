-- How a migration of a deployment ends.
use Rattle.std.proofs.Common.{ℕ, ◌-◌, List, Result, Ok, Err, inr, refl}
use Rattle.dds_deploy.specs.Migration.{IsMigrated}
use Rattle.dds_deploy.specs.Document.{read_up_to}
use Rattle.dds_answers.specs.declared.answer.Answer.{Answer}
use Rattle.dds_answers.specs.declared.fault.ToolFault.{ToolFault}
use Rattle.dds_answers.specs.Answers.{Gives, GivesOneOf}
use Rattle.dds_answers.specs.Migrations.{MayMigrate}
use Rattle.dds_answers.specs.Outcome.{migrated}

-- the text is what the migration ends with
pub may_migrate : (to : ℕ) (d text : List ℕ) → IsMigrated to d text → MayMigrate to d (read_up_to (to - 1) d) (migrated text)
may_migrate to d text m = rw m.from (text, m, refl)

-- so is what is given of it
pub migration_gives : (to : ℕ) (d text : List ℕ) (r : Result Answer ToolFault) → IsMigrated to d text → Gives r (migrated text) → GivesOneOf (MayMigrate to d (read_up_to (to - 1) d)) r
migration_gives to d text (Ok answer) m gives = (migrated text, may_migrate to d text m, gives)
migration_gives to d text (Err e) m ends = inr (migrated text, may_migrate to d text m, ends)
