use Rattle.std.proofs.Common.{◌≡◌}
use Rattle.dds_base.specs.Sums.{any_below}
use Rattle.dds_match.specs.Plan.{network_of}
use Rattle.dds_lint.specs.Renewal.{renews}
use Rattle.dds_lint.proofs.renewal.is_renewed.Given as goal

-- whether one of the rules so far lets it be written again
abbrev pub invariant-loop-u : goal.invariant-loop-u
invariant-loop-u l = l.any ≡ any_below l.u (renews (network_of l.plan) l.writer l.key)
