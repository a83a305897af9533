use Rattle.std.proofs.Common.{◌≡◌, ◌++◌}
use Rattle.dds_match.specs.Plan.{network_of}
use Rattle.dds_check.specs.Limits.{keep_last_filter}
use Rattle.dds_lint.specs.Every.{every_below, those_below}
use Rattle.dds_lint.proofs.limits.push_filters.Given as goal

-- the pairs of the writers so far are added
abbrev pub invariant-loop-w : goal.invariant-loop-w
invariant-loop-w l = l.nos.items ≡ l.initial.nos.items ++ every_below l.w (λ w. those_below (network_of l.plan).readers (keep_last_filter (network_of l.plan) w))
