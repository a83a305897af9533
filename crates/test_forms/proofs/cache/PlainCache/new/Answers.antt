use Rattle.std.proofs.Common.{arith}
use Rattle.std.specs.Ordering.{nat_cmp}
use Rattle.std.specs.FinSet.{len-empty}
use Rattle.test_forms.proofs.cache.PlainCache.new.Goals as goal

pub invariant_of-result : goal.invariant_of-result
invariant_of-result c = record {
  counted = rw c.new.ensures.keys (len-empty nat_cmp);
  apart = rw c.new.ensures.stored (λ i j d below within. absurd (omega arith));
}
