use Rattle.std.proofs.Common.{subst}
use Rattle.dds_lists.specs.WellFormed.{IsWellFormed}
use Rattle.dds_match.proofs.Known.{network_known}
use Rattle.dds_match.proofs.plan.Plan.assert_well_formed.Goals as goal

pub returns-clause-network : goal.returns-clause-network
returns-clause-network c = network_known c.args.self.now (subst IsWellFormed c.self.view_is c.assert_well_formed.ensures.well_formed)
