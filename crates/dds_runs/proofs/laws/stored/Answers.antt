use Rattle.dds_runs.proofs.Safety.{stored_law}
use Rattle.dds_runs.proofs.laws.stored.Goals as goal

pub returns : goal.returns
returns c = stored_law
