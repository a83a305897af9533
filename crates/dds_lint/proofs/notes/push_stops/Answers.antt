use Rattle.std.proofs.Common.{rules, slice_index}
use Rattle.dds_match.specs.Plan.{network_of}
use Rattle.dds_lint.specs.Notes.{stops}
use Rattle.dds_lint.proofs.notes.push_stops.Goals as goal

pub returns : goal.returns
returns c =
    c.push_below.ensures _ (stops (network_of c.args.plan.now) (slice_index c.args.limits.now)) c.rules_of.ensures.count (λ i r below gives. search rules)
