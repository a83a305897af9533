use Rattle.std.proofs.Common.{◌≡◌, ◌++◌}
use Rattle.dds_match.specs.Plan.{network_of}
use Rattle.dds_check.specs.Limits.{writer_depth}
use Rattle.dds_lint.specs.Every.{every_below, those_below}
use Rattle.dds_lint.proofs.limits.push_depths_of.Given as goal

-- the keys of the readers so far are added
abbrev pub invariant-loop-r : goal.invariant-loop-r
invariant-loop-r l = l.nos.items ≡ l.initial.nos.items ++ every_below l.r (λ r. those_below (network_of l.plan).keys (writer_depth (network_of l.plan) l.bounds l.totals l.writer r))
