use Rattle.std.proofs.Common.{ap, refl}
use Rattle.dds_cache.specs.Cache.{CacheState}
use Rattle.dds_reader.specs.Marks.{in_marks}
use Rattle.dds_reader.proofs.OpeningLaws.{opened_tied}
use Rattle.test_forms.proofs.held.Held.new.Goals as goal

pub invariant_of-result : goal.invariant_of-result
invariant_of-result c = record {
  tied = opened_tied (in_marks c.new-2.result.items) c.in_ok-cache.cache c.args.writers.now (rw c.new-2.ensures.items (λ v n. refl))
      (ap (λ (v : CacheState). v.stored) c.in_ok-cache.ensures) (ap (λ (v : CacheState). v.writers) c.in_ok-cache.ensures);
}
