use Rattle.std.proofs.Common.{◌≡◌, ◌≤◌, length, take, vec_len, vec_capacity}
use Rattle.dds_cache.specs.Released.{opened}
use Rattle.test_forms.proofs.cache.PlainCache.new.Given as goal

abbrev pub invariant-loop-writer : goal.invariant-loop-writer
invariant-loop-writer l =
    (l.listed.items ≡ opened (take l.writer-index l.writers)) × (vec_len l.listed ≡ l.writer-index) × (length l.writers ≤ vec_capacity l.listed)
