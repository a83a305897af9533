use Rattle.std.proofs.Common.{ap, ◌∙◌}
use Rattle.dds_match.specs.Plan.{network_of}
use Rattle.dds_check.specs.Limits.{writer_instances}
use Rattle.dds_lint.proofs.limits.fn.push_writer_instances.push_below.Goals as goal

pub returns : goal.returns
returns c = c.writer_instances.ensures ∙ ap (writer_instances (network_of c.captures.plan.now)) c.new.ensures
