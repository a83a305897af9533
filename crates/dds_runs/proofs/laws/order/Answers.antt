use Rattle.dds_runs.proofs.Safety.{order_law}
use Rattle.dds_runs.proofs.laws.order.Goals as goal

pub returns : goal.returns
returns c = order_law
