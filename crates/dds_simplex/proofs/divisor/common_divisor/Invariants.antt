use Rattle.std.proofs.Common.{ℕ}
use Rattle.std.specs.Int.{IsGcd}
use Rattle.dds_simplex.proofs.divisor.common_divisor.Given as goal

-- what divides the numbers at hand divides the first ones
abbrev pub invariant-loop-rest : goal.invariant-loop-rest
invariant-loop-rest l = (g : ℕ) → IsGcd l.greater l.rest g → IsGcd l.first l.second g

-- the rest falls
abbrev pub decreases-loop-rest : goal.decreases-loop-rest
decreases-loop-rest l = l.rest
