use Rattle.std.proofs.Common.{MatchOption}
use Rattle.test_forms.specs.Least.{IsLeastBelow, NoneBelow}
use Rattle.test_forms.proofs.cache.PlainCache.least.Given as goal

abbrev pub invariant-loop-at : goal.invariant-loop-at
invariant-loop-at l = MatchOption l.best (NoneBelow l.self l.key l.at) (λ b. IsLeastBelow l.self l.key l.at b)
