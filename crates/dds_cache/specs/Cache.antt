-- A bounded cache of a reader's samples, as its callers see it.
use Rattle.std.specs.Prelude.{ℕ, Bool, List, nat_le}
use Rattle.dds_base.specs.declared.sample.Sample.{Sample}
use Rattle.dds_qos.specs.declared.limits.ReaderLimits.{ReaderLimits}
use Rattle.dds_qos.specs.Samples.{Keys}
use Rattle.dds_qos.specs.Taking.{available_of}
use Rattle.dds_cache.specs.declared.released.Released.{Released}
use Rattle.dds_cache.specs.Released.{released_of}

-- the limits, the stored samples in order of admission, the keys of all samples ever stored, and each writer's released number
pub record CacheState : Type 0 where
  pub limits : ReaderLimits
  pub stored : List Sample
  pub keys : Keys
  pub writers : List Released

-- a sample is available: its number is not above its writer's released one
abbrev pub is_available : CacheState → Sample → Bool
is_available c x = nat_le x.sn (released_of x.writer c.writers)

-- the stored samples of the key that are available, in order of admission
abbrev pub available : CacheState → ℕ → List Sample
available c key = available_of (is_available c) key c.stored
