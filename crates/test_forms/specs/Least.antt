-- The place of the available sample of a key with the least number, of whatever writer.
use Rattle.std.specs.Prelude.{◌≡◌, ℕ, ◌<◌, ◌≤◌, length, slice_index_or as get_or}
use Rattle.dds_base.specs.declared.sample.Sample.{Sample}
use Rattle.dds_cache.specs.Cache.{CacheState}
use Rattle.dds_cache.specs.Released.{released_of}

-- the place has the least among the first n stored samples
pub record IsLeastBelow (c : CacheState) (key : ℕ) (n at : ℕ) : Type 0 where
  pub within : at < n
  pub of_key : (d : Sample) → (get_or c.stored at d).key ≡ key
  pub available : (d : Sample) → (get_or c.stored at d).sn ≤ released_of (get_or c.stored at d).writer c.writers
  pub least : (k : ℕ) (d : Sample) → k < n → (get_or c.stored k d).key ≡ key → (get_or c.stored k d).sn ≤ released_of (get_or c.stored k d).writer c.writers → (get_or c.stored at d).sn ≤ (get_or c.stored k d).sn

-- the place has the least among all stored samples
abbrev pub IsLeastAt : CacheState → ℕ → ℕ → Type 0
IsLeastAt c key at = IsLeastBelow c key (length c.stored) at

-- none of the first n stored samples is an available one of the key
abbrev pub NoneBelow : CacheState → ℕ → ℕ → Type 0
NoneBelow c key n = (k : ℕ) (d : Sample) → k < n → (get_or c.stored k d).key ≡ key → released_of (get_or c.stored k d).writer c.writers < (get_or c.stored k d).sn

-- no stored sample is an available one of the key
abbrev pub NoneAvailable : CacheState → ℕ → Type 0
NoneAvailable c key = NoneBelow c key (length c.stored)
