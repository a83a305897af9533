use Rattle.std.proofs.Common.{sym, arith}
use Rattle.dds_match.specs.Plan.{network_of}
use Rattle.dds_check.proofs.Unshown.{unshown_found, none_unshown}
use Rattle.dds_check.proofs.shown.first_bound_not_shown.Goals as goal

pub returns-then-first-len : goal.returns-then-first-len
returns-then-first-len c = sym (unshown_found (network_of c.args.plan.now) _ _ c.first_unshown-first.result c.bound_at.result.now c.first_unshown-first.ensures c.bound_at.ensures)

pub returns : goal.returns
returns c = sym (none_unshown (network_of c.args.plan.now) _ _ c.first_unshown-first.result c.first_unshown-first.ensures (omega arith))
