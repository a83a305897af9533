use Rattle.std.proofs.Common.{◌≡◌, ◌∙◌, subst, sym, List, true, IsTrue}
use Rattle.std.specs.Map.{values_of}
use Rattle.dds_base.specs.declared.sample.Sample.{Sample}
use Rattle.dds_qos.specs.Samples.{first_of}
use Rattle.dds_cache.specs.Cache.{CacheState}
use Rattle.dds_cache.specs.Released.{is_listed}
use Rattle.dds_cache.specs.Least.{AreListed}
use Rattle.dds_cache.specs.Order.{samples_of}
use Rattle.dds_cache.proofs.StoredLaws.{All-stored}
use Rattle.dds_cache.proofs.cache.Cache.admit.Goals as goal

pub invariant_of-self-2 : goal.invariant_of-self-2
invariant_of-self-2 c =
    let ws = c.self.inside.writers.items in
    let stored = values_of (samples_of c.self.inside.contents.order.places) in
    let own : is_listed c.args.sample.writer ws ≡ true =
    subst (λ (v : CacheState). IsTrue (is_listed c.args.sample.writer v.writers)) (sym c.self.view_is) c.requires.listed in
    record {
      uniform = c.self.invariant.uniform;
      listed = subst (λ (l : List Sample). AreListed l ws) (sym c.in_ok-store.ensures.stored)
          (All-stored (λ x. is_listed x.writer ws ≡ true) stored c.args.sample (first_of c.args.sample.key stored) c.is_overwrote.result
          c.self.invariant.listed own);
      rising = c.self.invariant.rising;
      aged = c.self.invariant.aged ∙ sym c.in_ok-store.ensures.by_age;
    }
