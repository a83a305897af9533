use Rattle.std.proofs.Common.{ap, ◌∙◌, sym}
use Rattle.std.specs.FinSet as set
use Rattle.std.specs.FinSet.{contains-from_list_nat}
use Rattle.dds_cache.specs.Cache.{CacheState}
use Rattle.test_forms.proofs.cache.PlainCache.knows.Goals as goal

pub returns : goal.returns
returns c =
    c.knows.ensures
    ∙ sym (contains-from_list_nat c.self.inside.contents.keys.items c.args.key)
    ∙ ap (λ (v : CacheState). set.contains v.keys c.args.key) c.self.view_is
