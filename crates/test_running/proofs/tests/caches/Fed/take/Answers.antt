use Rattle.test_running.proofs.FedLaws.{below_taken}
use Rattle.test_running.proofs.tests.caches.Fed.take.Goals as goal

pub invariant_of-self : goal.invariant_of-self
invariant_of-self g c =
    let before = g.C.CacheForm.state c.args.self.now.cache in
    record {
      listed = rw c.take.ensures.writers c.args.self.now.listed;
      below = below_taken c.args.self.now.last before.stored (g.C.CacheForm.state c.take.new.self).stored c.take.result c.args.self.now.below c.take.ensures.stored;
    }
