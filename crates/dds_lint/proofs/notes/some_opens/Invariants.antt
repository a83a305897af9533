use Rattle.std.proofs.Common.{◌≡◌}
use Rattle.dds_base.specs.Sums.{any_below}
use Rattle.dds_match.specs.Plan.{network_of}
use Rattle.dds_lint.specs.Firings.{opens}
use Rattle.dds_lint.proofs.notes.some_opens.Given as goal

-- whether one of the rules so far opens
abbrev pub invariant-loop-u : goal.invariant-loop-u
invariant-loop-u l = l.any ≡ any_below l.u (opens (network_of l.plan))
