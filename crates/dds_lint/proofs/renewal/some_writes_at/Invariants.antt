use Rattle.std.proofs.Common.{◌≡◌}
use Rattle.dds_base.specs.Sums.{any_below}
use Rattle.dds_match.specs.Plan.{network_of}
use Rattle.dds_lint.specs.Renewal.{writes_at}
use Rattle.dds_lint.proofs.renewal.some_writes_at.Given as goal

-- whether one of the rules so far writes there
abbrev pub invariant-loop-u : goal.invariant-loop-u
invariant-loop-u l = l.any ≡ any_below l.u (writes_at (network_of l.plan) l.writer)
