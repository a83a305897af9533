use Rattle.std.proofs.Common.{◌≡◌}
use Rattle.dds_base.specs.Sums.{any_below}
use Rattle.dds_match.specs.Plan.{network_of}
use Rattle.dds_recap.specs.Recap.{spare_at}
use Rattle.dds_recap.specs.Waits.{lacks}
use Rattle.dds_recap.proofs.waits.waits.Given as goal

-- one of the rules so far lacks takes
abbrev pub invariant-loop-rule : goal.invariant-loop-rule
invariant-loop-rule l = l.any ≡ any_below l.rule (lacks (network_of l.plan) l.app l.reader l.key (spare_at l.recap l.reader l.key))
