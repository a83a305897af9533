use Rattle.std.proofs.Common.{◌≡◌}
use Rattle.dds_search.proofs.loss.making.Making.fire_all.Given as goal

-- the plan is as it was
abbrev pub invariant-loop-some : goal.invariant-loop-some
invariant-loop-some l = l.self.simulator.plan ≡ l.fn.self.simulator.plan
