use Rattle.std.proofs.Common.{rules}
use Rattle.dds_match.specs.Plan.{network_of}
use Rattle.dds_lint.proofs.FiringLaws.{within_by}
use Rattle.dds_lint.proofs.firings.next_firings.Goals as goal

pub returns-then-not-can_fire-clause-none : goal.returns-then-not-can_fire-clause-none
returns-then-not-can_fire-clause-none c = λ n few fires. within_by (network_of c.args.plan.now) c.args.cells.now c.args.rule n c.args.limit (search rules) fires
