use Rattle.std.proofs.Common.{ℕ, List, ◌<◌, get_or, length}
use Rattle.dds_options.specs.Allowed.{IsNoteWord, words_of}
use Rattle.dds_options.proofs.allowed.are_note_words.Given as goal

-- the words so far are those of notes
abbrev pub invariant-loop-word : goal.invariant-loop-word
invariant-loop-word l = (k : ℕ) (d : List ℕ) → k < length l.yielded → IsNoteWord (get_or (words_of l.text) k d)
