use Rattle.dds_runs.proofs.Safety.{counts_law}
use Rattle.dds_runs.proofs.laws.counts.Goals as goal

pub returns : goal.returns
returns c = counts_law
