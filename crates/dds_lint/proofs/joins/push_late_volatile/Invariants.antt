use Rattle.std.proofs.Common.{◌≡◌, ◌++◌}
use Rattle.dds_match.specs.Plan.{network_of}
use Rattle.dds_check.specs.Joins.{late_volatile}
use Rattle.dds_lint.specs.Every.{every_below, those_below}
use Rattle.dds_lint.proofs.joins.push_late_volatile.Given as goal

-- the pairs of the writers so far are added
abbrev pub invariant-loop-w : goal.invariant-loop-w
invariant-loop-w l = l.nos.items ≡ l.initial.nos.items ++ every_below l.w (λ w. those_below (network_of l.plan).readers (late_volatile (network_of l.plan) w))
