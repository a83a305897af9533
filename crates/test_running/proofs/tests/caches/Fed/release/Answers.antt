use Rattle.std.proofs.Common.{◌∙◌}
use Rattle.test_running.proofs.FedLaws.{listed_raised}
use Rattle.test_running.proofs.tests.caches.Fed.release.Goals as goal

pub invariant_of-self : goal.invariant_of-self
invariant_of-self g c = record {
  listed = rw c.release.ensures.writers
      (λ w lt. listed_raised w c.new.result c.args.upto (g.C.CacheForm.state c.args.self.now.cache).writers ∙ c.args.self.now.listed w lt);
  below = rw c.release.ensures.stored c.args.self.now.below;
}
