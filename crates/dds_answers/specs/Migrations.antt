-- How a migration of a deployment may end.
use Rattle.std.specs.Prelude.{ℕ, List, ◌≡◌, Ok, Err}
use Rattle.dds_fields.specs.Reading.{Read}
use Rattle.dds_lists.specs.Lists.{Lists}
use Rattle.dds_deploy.specs.Migration.{IsMigrated}
use Rattle.dds_deploy.specs.Document.{read_up_to}
use Rattle.dds_answers.specs.Outcome.{MayOfFile, Outcome, bad_deployment, migrated}

-- bytes that are read as a deployment of a version below this one become a text of this version that stands for the same lists; else the flaw is reported
abbrev pub MayMigrate : (to : ℕ) → List ℕ → Read Lists → Outcome → Type 0
MayMigrate to d (Ok lists) end = (text : List ℕ) × IsMigrated to d text × (end ≡ migrated text)
MayMigrate to d (Err flaw) end = end ≡ bad_deployment flaw
