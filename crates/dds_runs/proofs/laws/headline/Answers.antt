use Rattle.dds_runs.proofs.Safety.{safe_law}
use Rattle.dds_runs.proofs.laws.headline.Goals as goal

pub returns : goal.returns
returns c = safe_law
