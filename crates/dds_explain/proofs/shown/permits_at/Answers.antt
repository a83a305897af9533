use Rattle.std.proofs.Common.{rules}
use Rattle.dds_match.specs.Plan.{network_of}
use Rattle.dds_explain.proofs.ExplainLaws.{unwritten_permits}
use Rattle.dds_explain.proofs.shown.permits_at.Goals as goal

pub returns-else-is_written : goal.returns-else-is_written
returns-else-is_written c = unwritten_permits (network_of c.args.plan.now) c.args.writer c.args.key (search rules)
