-- Which notes are let pass: words with commas between them.
use Rattle.std.specs.Prelude.{ℕ, ◌≡◌, Bool, ◌||◌, ◌==◌, List, [], ◌++◌, codes}
use Rattle.std.specs.List.{All, list_any, slice_split}
use Rattle.std.specs.Str.{bytes_eq}
use Rattle.dds_options.specs.Kinds.{kind_word}
use Rattle.dds_options.specs.declared.kinds.NoteKind.{NoteKind}

-- a note by its kind, and by the name of what it is about where that has one
abbrev pub note_word : NoteKind → (subject : List ℕ) → List ℕ
note_word k [] = kind_word k
note_word k subject = kind_word k ++ (codes ":" ++ subject)

-- the word is that of some note
abbrev pub IsNoteWord : List ℕ → Type 0
IsNoteWord word = (k : NoteKind) × (subject : List ℕ) × (word ≡ note_word k subject)

-- the words of a text, between its commas
abbrev pub words_of : List ℕ → List (List ℕ)
words_of text = slice_split (λ b. b == 44) text

-- each word of the text is that of some note
abbrev pub AreNoteWords : List ℕ → Type 0
AreNoteWords text = All IsNoteWord (words_of text)

-- the word lets a note of this kind pass: it's the name of the kind, alone or with the name of what the note is about
abbrev pub lets_pass : NoteKind → (subject : List ℕ) → (word : List ℕ) → Bool
lets_pass k subject word = bytes_eq word (kind_word k) || bytes_eq word (kind_word k ++ (codes ":" ++ subject))

-- one of the words of the text does
abbrev pub is_allowed : (text : List ℕ) → NoteKind → (subject : List ℕ) → Bool
is_allowed text k subject = list_any (lets_pass k subject) (words_of text)
