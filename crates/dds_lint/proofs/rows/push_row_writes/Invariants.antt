use Rattle.std.proofs.Common.{◌≡◌, ◌++◌}
use Rattle.dds_match.specs.Plan.{network_of}
use Rattle.dds_runs.specs.Accepted.{row_of}
use Rattle.dds_check.specs.Rows.{write_raises}
use Rattle.dds_lint.specs.Every.{every_below, those_below}
use Rattle.dds_lint.proofs.rows.push_row_writes.Given as goal

-- the keys of the writers so far are added
abbrev pub invariant-loop-w : goal.invariant-loop-w
invariant-loop-w l = l.nos.items ≡ l.initial.nos.items ++ every_below l.w (λ w. those_below (network_of l.plan).keys (write_raises (network_of l.plan) (row_of l.weights) l.n w))
