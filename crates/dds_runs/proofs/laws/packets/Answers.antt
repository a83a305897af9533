use Rattle.dds_runs.proofs.Safety.{packets_law}
use Rattle.dds_runs.proofs.laws.packets.Goals as goal

pub returns : goal.returns
returns c = packets_law
