use Rattle.std.proofs.Common.{ap, ◌∙◌}
use Rattle.dds_match.specs.Plan.{network_of}
use Rattle.dds_check.specs.Limits.{of_strict, reader_instances}
use Rattle.dds_lint.proofs.limits.fn.push_instances.push_below.Goals as goal

pub returns : goal.returns
returns c = c.reader_instances.ensures ∙ ap (of_strict (network_of c.captures.plan.now) (reader_instances (network_of c.captures.plan.now))) c.new.ensures
