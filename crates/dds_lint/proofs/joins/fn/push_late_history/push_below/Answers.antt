use Rattle.std.proofs.Common.{ap, ◌∙◌}
use Rattle.dds_match.specs.Plan.{network_of}
use Rattle.dds_check.specs.Joins.{late_history}
use Rattle.dds_lint.proofs.joins.fn.push_late_history.push_below.Goals as goal

pub returns : goal.returns
returns c = c.late_history.ensures ∙ ap (late_history (network_of c.captures.plan.now)) c.new.ensures
