-- How the marks of a reader and its cache belong together.
use Rattle.std.specs.Prelude.{◌≡◌, ℕ, ◌+◌, ◌≤◌, Bool, true, false}
use Rattle.std.specs.List.{All}
use Rattle.dds_base.specs.declared.sample.Sample.{Sample}
use Rattle.dds_qos.specs.declared.admission.Admit.{Admit}
use Rattle.dds_qos.specs.Admission.{stored_after, keys_after}
use Rattle.dds_qos.specs.Samples.{without}
use Rattle.dds_cache.specs.Released.{released_of, is_listed}
use Rattle.dds_cache.specs.Cache.{CacheState}
use Rattle.dds_reader.specs.Marks.{AreNumbers}

-- each listed writer's samples are released up to its base less one, and each stored sample is marked and of a listed writer
pub record IsTied (marked : ℕ → ℕ → Bool) (c : CacheState) : Type 0 where
  pub numbers : AreNumbers marked
  pub received : All (λ y. marked y.writer y.sn ≡ true) c.stored
  pub known : All (λ y. is_listed y.writer c.writers ≡ true) c.stored
  pub released : (w n : ℕ) → 1 ≤ n → n ≤ released_of w c.writers → marked w n ≡ true
  pub next : (w : ℕ) → is_listed w c.writers ≡ true → marked w (released_of w c.writers + 1) ≡ false

-- at most released numbers changed
pub record SameCache (c c' : CacheState) : Type 0 where
  pub limits : c'.limits ≡ c.limits
  pub stored : c'.stored ≡ c.stored
  pub keys : c'.keys ≡ c.keys
  pub listed : (v : ℕ) → is_listed v c'.writers ≡ is_listed v c.writers

-- the cache after an admission with that answer; released numbers may have changed
pub record CacheAfter (a : Admit) (x : Sample) (c c' : CacheState) : Type 0 where
  pub limits : c'.limits ≡ c.limits
  pub stored : c'.stored ≡ stored_after a c.stored x
  pub keys : c'.keys ≡ keys_after a c.keys x
  pub listed : (v : ℕ) → is_listed v c'.writers ≡ is_listed v c.writers

-- the cache after it gave a sample
pub record CacheTaken (x : Sample) (c c' : CacheState) : Type 0 where
  pub limits : c'.limits ≡ c.limits
  pub stored : c'.stored ≡ without x c.stored
  pub keys : c'.keys ≡ c.keys
  pub writers : c'.writers ≡ c.writers
