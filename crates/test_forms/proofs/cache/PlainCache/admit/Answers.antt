use Rattle.std.proofs.Common.{◌∙◌, sym, refl, subst}
use Rattle.dds_qos.specs.Samples.{IsFresh}
use Rattle.std.specs.FinSet as set
use Rattle.dds_cache.specs.Cache.{CacheState}
use Rattle.test_forms.proofs.KeyLaws.{counted_learned, from_list_learned}
use Rattle.test_forms.proofs.StoredLaws.{apart_after, stored_as, keys_as}
use Rattle.test_forms.proofs.cache.PlainCache.admit.Goals as goal

pub invariant_of-self-2 : goal.invariant_of-self-2
invariant_of-self-2 c = record {
  counted = rw c.in_ok-store.ensures.keys (counted_learned _ _ c.self.invariant.counted);
  apart = rw c.in_ok-store.ensures.stored (apart_after _ _ _ _ c.self.invariant.apart (subst (λ (v : CacheState). IsFresh v.stored c.args.sample) (sym c.self.view_is) c.requires.fresh));
}

pub returns-clause-state : goal.returns-clause-state
returns-clause-state c =
    let taken = sym c.is_rejected.ensures ∙ c.if-is_rejected.false in
    rw (
      c.in_ok-store.ensures.stored,
      c.in_ok-store.ensures.keys,
      from_list_learned c.self.inside.contents.keys.items c.args.sample.key,
      c.is_overwrote.ensures,
      ← c.self.view_is,
      stored_as c.admission-answer.result c.self.inside.contents.stored.items c.args.sample taken,
      keys_as c.admission-answer.result (set.from_list c.self.inside.contents.keys.items) c.args.sample taken,
    ) refl
