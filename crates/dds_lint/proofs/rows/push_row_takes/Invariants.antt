use Rattle.std.proofs.Common.{◌≡◌, ◌++◌}
use Rattle.dds_match.specs.Plan.{network_of}
use Rattle.dds_runs.specs.Accepted.{row_of}
use Rattle.dds_check.specs.Rows.{take_raises}
use Rattle.dds_lint.specs.Every.{every_below, those_below}
use Rattle.dds_lint.proofs.rows.push_row_takes.Given as goal

-- the keys of the readers so far are added
abbrev pub invariant-loop-r : goal.invariant-loop-r
invariant-loop-r l = l.nos.items ≡ l.initial.nos.items ++ every_below l.r (λ r. those_below (network_of l.plan).keys (take_raises (network_of l.plan) (row_of l.weights) l.n r))
