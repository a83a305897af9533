use Rattle.dds_match.specs.Plan.{network_of}
use Rattle.dds_check.specs.Limits.{writer_instances}
use Rattle.dds_lint.proofs.limits.push_writer_instances.Goals as goal

pub returns : goal.returns
returns c = c.push_below.ensures _ (writer_instances (network_of c.args.plan.now)) c.writers_of.ensures.count (λ i r below gives. gives)
