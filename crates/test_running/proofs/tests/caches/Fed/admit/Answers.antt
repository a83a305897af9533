use Rattle.std.proofs.Common.{◌<◌, length, slice_index_or, arith}
use Rattle.test_running.proofs.FedLaws.{below_after}
use Rattle.test_running.proofs.tests.caches.Fed.admit.Goals as goal

pub invariant_of-self-2 : goal.invariant_of-self-2
invariant_of-self-2 g c =
    let last = c.args.self.now.last in
    let within : c.args.writer < length last = omega (arith, c.if-writer-ge2.false) in
    let lt : slice_index_or last c.args.writer 0 < c.args.sn = omega (arith, c.if-sn-self.false) in
    record {
      listed = rw c.admit.ensures.writers c.args.self.now.listed;
      below = rw (c.last_after.ensures, c.in_ok-answer.ensures.stored)
          (below_after c.in_ok-answer.answer last (g.C.CacheForm.state c.args.self.now.cache).stored c.sample.result c.args.writer c.args.sn c.args.self.now.below within lt c.sample.ensures.writer c.sample.ensures.number);
    }
