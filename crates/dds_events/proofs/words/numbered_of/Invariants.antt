use Rattle.std.proofs.Common.{◌≢◌, ◌<◌, ◌^◌, ℕ}
use Rattle.std.specs.Fmt.{decimal}
use Rattle.dds_text.specs.Names.{name_at}
use Rattle.dds_text.specs.Texts.{two_words}
use Rattle.dds_events.proofs.words.numbered_of.Given as goal

-- none of the names so far begins the text
abbrev pub invariant-loop-name : goal.invariant-loop-name
invariant-loop-name l = (m : ℕ) → m < l.name → (n : ℕ) → n < 2 ^ 64 → two_words (name_at l.names m) (decimal n) ≢ l.text
