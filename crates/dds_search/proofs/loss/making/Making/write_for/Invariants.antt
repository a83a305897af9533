use Rattle.std.proofs.Common.{◌≡◌}
use Rattle.dds_search.proofs.loss.making.Making.write_for.Given as goal

-- the plan is as it was
abbrev pub invariant-loop-w : goal.invariant-loop-w
invariant-loop-w l = l.self.simulator.plan ≡ l.fn.self.simulator.plan
