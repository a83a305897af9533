use Rattle.std.proofs.Common.{◌≡◌}
use Rattle.dds_search.proofs.loss.making.Making.relieve.Given as goal

-- the plan is as it was
abbrev pub invariant-loop-r : goal.invariant-loop-r
invariant-loop-r l = l.self.simulator.plan ≡ l.fn.self.simulator.plan
