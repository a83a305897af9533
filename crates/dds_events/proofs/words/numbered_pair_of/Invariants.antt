use Rattle.std.proofs.Common.{◌≢◌, ◌<◌, ◌^◌, ℕ, length}
use Rattle.std.specs.Fmt.{decimal}
use Rattle.dds_text.specs.Names.{name_at}
use Rattle.dds_text.specs.Texts.{three_words}
use Rattle.dds_events.proofs.words.numbered_pair_of.Given as goal

-- none of the first names so far begins the text
abbrev pub invariant-loop-first : goal.invariant-loop-first
invariant-loop-first l = (k : ℕ) → k < l.first → (m n : ℕ) → m < length l.seconds → n < 2 ^ 64 → three_words (name_at l.firsts k) (name_at l.seconds m) (decimal n) ≢ l.text
