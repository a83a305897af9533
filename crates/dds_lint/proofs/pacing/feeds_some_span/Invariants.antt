use Rattle.std.proofs.Common.{◌≡◌}
use Rattle.dds_base.specs.Sums.{any_below}
use Rattle.dds_lint.specs.Pacing.{feeds_span}
use Rattle.dds_lint.proofs.pacing.feeds_some_span.Given as goal

-- whether the rule feeds one of the readers so far
abbrev pub invariant-loop-r : goal.invariant-loop-r
invariant-loop-r l = l.any ≡ any_below l.r (feeds_span l.plan l.rule)
