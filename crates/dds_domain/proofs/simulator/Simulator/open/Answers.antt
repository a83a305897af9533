use Rattle.dds_domain.proofs.Standing.{opened_after}
use Rattle.dds_domain.proofs.simulator.Simulator.open.Goals as goal

pub returns-clause-opening : goal.returns-clause-opening
returns-clause-opening c = opened_after c.in_ok-parts.parts c.in_ok-parts.ensures.opening
