use Rattle.std.proofs.Common.{◌≡◌, ◌++◌}
use Rattle.dds_match.specs.Plan.{network_of}
use Rattle.dds_lint.specs.Conditions.{if_strict, no_bounds_nos}
use Rattle.dds_lint.specs.Every.{every_below}
use Rattle.dds_lint.proofs.limits.push_no_bounds.Given as goal

-- those of the readers so far are added
abbrev pub invariant-loop-r : goal.invariant-loop-r
invariant-loop-r l = l.nos.items ≡ l.initial.nos.items ++ every_below l.r (if_strict (network_of l.plan) (no_bounds_nos (network_of l.plan) l.bounds l.totals))
