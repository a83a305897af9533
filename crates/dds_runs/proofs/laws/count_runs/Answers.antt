use Rattle.dds_runs.proofs.Ledgers.{count_runs_law}
use Rattle.dds_runs.proofs.laws.count_runs.Goals as goal

pub returns : goal.returns
returns c = count_runs_law
