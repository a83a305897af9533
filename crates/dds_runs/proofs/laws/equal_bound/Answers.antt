use Rattle.dds_runs.proofs.Overflows.{equal_bound_law}
use Rattle.dds_runs.proofs.laws.equal_bound.Goals as goal

pub returns : goal.returns
returns c = equal_bound_law
