use Rattle.std.proofs.Common.{◌≢◌, ◌<◌, ℕ, length}
use Rattle.dds_text.specs.Names.{writer_key, writer_keys, writer_name}
use Rattle.dds_text.specs.Texts.{two_words}
use Rattle.dds_events.proofs.kinds.writer_and_key.Given as goal

-- none of the writers so far begins the text
abbrev pub invariant-loop-number : goal.invariant-loop-number
invariant-loop-number l = (w : ℕ) → w < l.number → (k : ℕ) → k < length (writer_keys l.lists w) → two_words (writer_name l.lists w) (writer_key l.lists w k) ≢ l.text
