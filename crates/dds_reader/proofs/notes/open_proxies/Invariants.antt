use Rattle.std.proofs.Common.{◌≡◌, ◌≤◌, length, take, vec_len, vec_capacity}
use Rattle.dds_reader.specs.Notes.{opened}
use Rattle.dds_reader.proofs.notes.open_proxies.Given as goal

abbrev pub invariant-loop-writer : goal.invariant-loop-writer
invariant-loop-writer l =
    (l.proxies.items ≡ opened (take l.writer-index l.writers)) × (vec_len l.proxies ≡ l.writer-index) × (length l.writers ≤ vec_capacity l.proxies)
