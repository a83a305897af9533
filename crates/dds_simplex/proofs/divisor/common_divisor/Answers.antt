use Rattle.std.proofs.Common.{arith}
use Rattle.std.proofs.lemmas.Nat.Gcd.{IsGcd-from_mod, IsGcd-from_zero}
use Rattle.dds_simplex.proofs.divisor.common_divisor.Goals as goal

pub loop-rest-preserved : goal.loop-rest-preserved
loop-rest-preserved c = λ g h. c.loop-rest.invariant g (IsGcd-from_mod c.loop-rest.greater c.loop-rest.rest g h)

pub returns : goal.returns
returns c = c.loop-rest.invariant c.loop-rest.greater (IsGcd-from_zero c.loop-rest.greater c.loop-rest.rest (omega arith))
