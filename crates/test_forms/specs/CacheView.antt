-- What the fields of the plain cache stand for.
use Rattle.std.specs.Prelude.{◌≡◌, length}
use Rattle.std.specs.FinSet as set
use Rattle.std.specs.Ordering.{nat_cmp}
use Rattle.test_forms.specs.declared.cache.PlainCache.TheInside.{Inside}
use Rattle.dds_cache.specs.Cache.{CacheState}
use Rattle.test_forms.specs.Contents.{IsApart}

-- the state that the fields stand for: the keys as a set, all else as it is
abbrev pub view_of : Inside → CacheState
view_of a = record {
  limits = a.limits;
  stored = a.contents.stored.items;
  keys = set.from_list a.contents.keys.items;
  writers = a.writers.items;
}

-- no key stands twice, so the list of keys is as long as the set, and no sample is stored twice
pub record IsSound (a : Inside) : Type 0 where
  pub counted : set.len (set.from_list {R = nat_cmp} a.contents.keys.items) ≡ length a.contents.keys.items
  pub apart : IsApart a.contents.stored.items
