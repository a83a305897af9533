use Rattle.std.proofs.Common.{◌≡◌, ◌<◌, length, sym, subst, refl}
use Rattle.dds_cache.specs.Cache.{CacheState}
use Rattle.std.proofs.Common.{get_or}
use Rattle.test_forms.proofs.StoredLaws.{place_is}
use Rattle.test_forms.proofs.TakeLaws.{taken_at, none_taken}
use Rattle.test_forms.proofs.cache.PlainCache.take.Goals as goal

pub returns-in-Some-clause-state : goal.returns-in-Some-clause-state
returns-in-Some-clause-state c =
    let within = subst (λ (v : CacheState). c.in-Some.at < length v.stored) (sym c.self.view_is) c.in-Some.ensures.within in
    let place = place_is c.self.inside.contents.stored.items c.in-Some.at c.remove.result c.self.invariant.apart within c.remove.ensures.value in
    rw (c.remove.ensures.items, ← c.self.view_is, place) refl

pub returns-in-Some-clause-answer : goal.returns-in-Some-clause-answer
returns-in-Some-clause-answer c =
    taken_at c.args.self.now c.args.key c.in-Some.at c.remove.result c.in-Some.ensures (subst (λ (v : CacheState). c.remove.result ≡ get_or v.stored c.in-Some.at c.remove.result) c.self.view_is c.remove.ensures.value)

pub returns-in-None-clause-answer : goal.returns-in-None-clause-answer
returns-in-None-clause-answer c = none_taken c.args.self.now c.args.key c.in-None.ensures
