use Rattle.dds_runs.proofs.Safety.{parts_law}
use Rattle.dds_runs.proofs.laws.parts.Goals as goal

pub returns : goal.returns
returns c = parts_law
