use Rattle.std.proofs.Common.{◌≡◌}
use Rattle.dds_search.proofs.loss.making.Making.spend_all.Given as goal

-- the plan is as it was
abbrev pub invariant-loop-need : goal.invariant-loop-need
invariant-loop-need l = l.self.simulator.plan ≡ l.fn.self.simulator.plan
