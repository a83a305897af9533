use Rattle.dds_match.specs.Plan.{network_of}
use Rattle.dds_check.specs.Limits.{of_strict, reader_instances}
use Rattle.dds_lint.proofs.limits.push_instances.Goals as goal

pub returns : goal.returns
returns c = c.push_below.ensures _ (of_strict (network_of c.args.plan.now) (reader_instances (network_of c.args.plan.now))) c.readers_of.ensures.count (λ i r below gives. gives)
