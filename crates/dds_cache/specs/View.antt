-- What the fields of the cache stand for.
use Rattle.std.specs.Prelude.{◌≡◌, IsTrue, is_some}
use Rattle.std.specs.BTreeMap.{keys}
use Rattle.std.specs.Map.{values_of}
use Rattle.std.specs.FinSet as set
use Rattle.dds_base.specs.Numbered.{AreRising}
use Rattle.dds_cache.specs.declared.cache.Cache.TheInside.{Inside}
use Rattle.dds_cache.specs.Cache.{CacheState}
use Rattle.dds_cache.specs.Least.{IsUniform, AreListed}
use Rattle.dds_cache.specs.Order.{samples_of}

-- the state that the fields stand for: the samples in order of their tickets, the counted keys as a set, all else as it is
abbrev pub view_of : Inside → CacheState
view_of a = record {
  limits = a.limits;
  stored = values_of (samples_of a.contents.order.places);
  keys = set.from_list (keys a.contents.counts);
  writers = a.writers.items;
}

-- each stored sample's writer is listed, with one released number, the writers stand in order of their numbers where the flag says so, and samples are kept by age under KEEP_LAST
pub record IsSound (a : Inside) : Type 0 where
  pub uniform : IsUniform a.writers.items
  pub listed : AreListed (values_of (samples_of a.contents.order.places)) a.writers.items
  pub rising : IsTrue a.rising → AreRising (λ r. r.writer) a.writers.items
  pub aged : is_some a.limits.keep_last ≡ a.contents.order.by_age
