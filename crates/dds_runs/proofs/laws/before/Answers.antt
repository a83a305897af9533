use Rattle.dds_runs.proofs.Before.{before_law}
use Rattle.dds_runs.proofs.laws.before.Goals as goal

pub returns : goal.returns
returns c = before_law
