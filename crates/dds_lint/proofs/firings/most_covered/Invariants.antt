use Rattle.std.proofs.Common.{◌≤◌}
use Rattle.dds_lint.proofs.firings.most_covered.Given as goal

-- no more than are counted, and one
abbrev pub invariant-loop-take : goal.invariant-loop-take
invariant-loop-take l = l.most ≤ 1001
