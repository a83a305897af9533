use Rattle.std.proofs.Common.{◌≡◌}
use Rattle.dds_base.specs.Sums.{any_below}
use Rattle.dds_match.specs.Plan.{network_of}
use Rattle.dds_lint.specs.Notes.{is_rival}
use Rattle.dds_lint.proofs.notes.has_rival.Given as goal

-- whether it competes with one of the rules so far
abbrev pub invariant-loop-u : goal.invariant-loop-u
invariant-loop-u l = l.any ≡ any_below l.u (is_rival (network_of l.plan) l.rule)
