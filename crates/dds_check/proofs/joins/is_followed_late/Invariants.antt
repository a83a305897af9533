use Rattle.std.proofs.Common.{◌≡◌, false}
use Rattle.dds_base.specs.Sums.{any_below}
use Rattle.dds_match.specs.Plan.{network_of}
use Rattle.dds_check.specs.Joins.{follows_late}
use Rattle.dds_check.proofs.joins.is_followed_late.Given as goal

-- none so far is late
abbrev pub invariant-loop-r : goal.invariant-loop-r
invariant-loop-r l = any_below l.r (follows_late (network_of l.plan) l.writer) ≡ false
