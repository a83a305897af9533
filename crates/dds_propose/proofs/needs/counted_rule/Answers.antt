use Rattle.std.proofs.Common.{ap}
use Rattle.dds_lists.specs.Lists.{Rule}
use Rattle.dds_match.specs.Plan.{network_of}
use Rattle.dds_propose.proofs.Takes.{needs_heard}
use Rattle.dds_propose.proofs.needs.counted_rule.Goals as goal

pub returns-clause-heard : goal.returns-clause-heard
returns-clause-heard c = needs_heard (network_of c.args.plan.now) c.lists.ensures.network c.args.u c.requires _ (ap (λ (x : Rule). x.takes) c.rule.ensures)
