use Rattle.dds_runs.proofs.Timed.{deployment_law, timed_law}
use Rattle.dds_runs.proofs.laws.timed.Goals as goal

pub returns-clause-network : goal.returns-clause-network
returns-clause-network c = timed_law

pub returns-clause-deployment : goal.returns-clause-deployment
returns-clause-deployment c = deployment_law
