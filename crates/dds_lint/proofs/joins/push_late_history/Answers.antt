use Rattle.dds_match.specs.Plan.{network_of}
use Rattle.dds_check.specs.Joins.{late_history}
use Rattle.dds_lint.proofs.joins.push_late_history.Goals as goal

pub returns : goal.returns
returns c = c.push_below.ensures _ (late_history (network_of c.args.plan.now)) c.writers_of.ensures.count (λ i r below gives. gives)
