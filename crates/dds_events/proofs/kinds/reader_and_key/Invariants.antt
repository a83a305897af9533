use Rattle.std.proofs.Common.{◌≢◌, ◌<◌, ℕ, length}
use Rattle.dds_text.specs.Names.{reader_key, reader_keys, reader_name}
use Rattle.dds_text.specs.Texts.{two_words}
use Rattle.dds_events.proofs.kinds.reader_and_key.Given as goal

-- none of the readers so far begins the text
abbrev pub invariant-loop-number : goal.invariant-loop-number
invariant-loop-number l = (r : ℕ) → r < l.number → (k : ℕ) → k < length (reader_keys l.lists r) → two_words (reader_name l.lists r) (reader_key l.lists r k) ≢ l.text
