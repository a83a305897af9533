use Rattle.std.proofs.Common.{◌≡◌}
use Rattle.dds_search.proofs.loss.making.Making.write_one.Given as goal

-- the plan is as it was
abbrev pub invariant-loop-key : goal.invariant-loop-key
invariant-loop-key l = l.self.simulator.plan ≡ l.fn.self.simulator.plan
