use Rattle.std.proofs.Common.{◌≡◌, drop}
use Rattle.dds_fields.specs.Words.{worded, words_view}
use Rattle.dds_fields.proofs.words.find_word.Given as goal

abbrev pub invariant-loop-word : goal.invariant-loop-word
invariant-loop-word g l = worded (words_view (drop l.word-index l.words)) l.text ≡ worded (words_view l.words) l.text
