-- What is opened: a guard of the deployment that the bytes are, for the application of this name.
use Rattle.std.specs.Prelude.{◌≡◌, ℕ, List, Some, None, Ok, Err}
use Rattle.dds_base.specs.Names.{number_of}
use Rattle.dds_lists.specs.Lists.{Lists, writers_at}
use Rattle.dds_deploy.specs.Document.{read}
use Rattle.dds_match.specs.Plan.{network_of}
use Rattle.dds_runs.specs.World.{opening}
use Rattle.dds_rules.specs.Standing.{StandsFor}
use Rattle.dds_guard.specs.declared.refused.OpenFault.{OpenFault}
use Rattle.dds_guard.specs.declared.refused.OpenFault.TheVariants.{Deployment, UnknownApplication, NoMemory}
use Rattle.dds_guard.specs.Guard.{GuardState, filters_of, names_of, rules_of}

-- the guard keeps what the deployment says of the application
pub record IsGuardOf (d : Lists) (a : ℕ) (g : GuardState) : Type 0 where
  pub writers : g.writers ≡ writers_at d.applications a
  pub filters : g.filters ≡ filters_of d a
  pub rules : g.rules ≡ rules_of d a
  pub names : g.names ≡ names_of d

-- and its ledger is the plan's, before the first event
pub record IsOpened (d : Lists) (a : ℕ) (g : GuardState) : Type 0 where
  pub guards : IsGuardOf d a g
  pub held : g.held ≡ None
  pub world : StandsFor (network_of d) opening g.ledger

-- the bytes are a deployment with an application of this name, of which it is the guard
pub record OpensAs (bytes name : List ℕ) (g : GuardState) : Type 0 where
  pub lists : Lists
  pub application : ℕ
  pub reads : read bytes ≡ Ok lists
  pub named : number_of lists.applications.names name ≡ Some application
  pub opened : IsOpened lists application g

-- the deployment has this fault, or no such application, or memory ran out
abbrev pub FailsToOpen : List ℕ → List ℕ → OpenFault → Type 0
FailsToOpen bytes name (Deployment kind) = (path : List ℕ) × (read bytes ≡ Err (kind, path))
FailsToOpen bytes name UnknownApplication = (d : Lists) × (read bytes ≡ Ok d) × (number_of d.applications.names name ≡ None)
FailsToOpen bytes name NoMemory = Unit {0}

-- the bytes are this deployment
abbrev pub ReadsAs : List ℕ → Lists → Type 0
ReadsAs bytes d = read bytes ≡ Ok d

-- the deployment has this fault, or memory ran out
abbrev pub FailsToRead : List ℕ → OpenFault → Type 0
FailsToRead bytes (Deployment kind) = (path : List ℕ) × (read bytes ≡ Err (kind, path))
FailsToRead bytes UnknownApplication = ⊥
FailsToRead bytes NoMemory = Unit {0}
