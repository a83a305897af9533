use Rattle.std.proofs.Common.{◌≢◌, ◌<◌, ℕ, length}
use Rattle.dds_text.specs.Names.{name_at}
use Rattle.dds_text.specs.Texts.{two_words}
use Rattle.dds_events.proofs.words.pair_of.Given as goal

-- none of the first names so far begins the text
abbrev pub invariant-loop-first : goal.invariant-loop-first
invariant-loop-first l = (m : ℕ) → m < l.first → (n : ℕ) → n < length l.seconds → two_words (name_at l.firsts m) (name_at l.seconds n) ≢ l.text
