use Rattle.std.proofs.lemmas.Option.{none-some}
use Rattle.std.proofs.Common.{subst}
use Rattle.std.specs.Ordering.{nat_cmp}
use Rattle.std.specs.FinSet.{len-empty}
use Rattle.dds_base.specs.Sums.{In}
use Rattle.test_forms.proofs.writer.PlainWriter.starting.Goals as goal

pub invariant_of-result : goal.invariant_of-result
invariant_of-result c = record {
  counted = rw c.new-2.ensures.items (len-empty nat_cmp);
  kept = record {
    rising = rw c.new.ensures.items tt;
    own = λ x i. absurd (subst (In x) c.new.ensures.items i);
    ended = c.requires;
  };
  held = λ x e. absurd (none-some x e);
}
