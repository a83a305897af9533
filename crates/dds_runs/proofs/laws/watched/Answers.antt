use Rattle.dds_runs.proofs.Safety.{watched_law}
use Rattle.dds_runs.proofs.laws.watched.Goals as goal

pub returns : goal.returns
returns c = watched_law
