use Rattle.dds_match.specs.Plan.{network_of}
use Rattle.dds_check.specs.Limits.{of_strict, samples_over}
use Rattle.dds_lint.proofs.limits.push_samples_over.Goals as goal

pub returns : goal.returns
returns c = c.push_below.ensures _ (of_strict (network_of c.args.plan.now) (samples_over (network_of c.args.plan.now) c.args.bounds.now c.args.totals.now)) c.readers_of.ensures.count (λ i r below gives. gives)
