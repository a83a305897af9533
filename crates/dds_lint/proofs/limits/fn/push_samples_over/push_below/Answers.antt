use Rattle.std.proofs.Common.{ap, ◌∙◌}
use Rattle.dds_match.specs.Plan.{network_of}
use Rattle.dds_check.specs.Limits.{of_strict, samples_over}
use Rattle.dds_lint.proofs.limits.fn.push_samples_over.push_below.Goals as goal

pub returns : goal.returns
returns c =
    let net = network_of c.captures.plan.now in
    c.samples_over.ensures ∙ ap (of_strict net (samples_over net c.captures.bounds.now c.captures.totals.now)) c.new.ensures
