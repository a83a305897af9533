use Rattle.std.proofs.Common.{◌≡◌, ◌++◌}
use Rattle.dds_match.specs.Plan.{network_of}
use Rattle.dds_lint.specs.Conditions.{if_strict, bounds_over_nos}
use Rattle.dds_lint.specs.Every.{every_below}
use Rattle.dds_lint.proofs.limits.push_bounds_over.Given as goal

-- those of the readers so far are added
abbrev pub invariant-loop-r : goal.invariant-loop-r
invariant-loop-r l = l.nos.items ≡ l.initial.nos.items ++ every_below l.r (if_strict (network_of l.plan) (bounds_over_nos (network_of l.plan) l.bounds))
