-- Words, truth values, and numbers that may be a word.
use Rattle.std.specs.Prelude.{codes, ℕ, Bool, List, [], ◌∷◌, map, Option, Some, None, Ok, if◌then◌else◌}
use Rattle.std.specs.Borrow.{Bor}
use Rattle.std.specs.Str.{bytes_eq}
use Rattle.toml.specs.Data.{Data, as_str, as_bool, as_integer}
use Rattle.dds_fields.specs.declared.fault.FaultKind.TheVariants.{WrongKind, OutOfRange}
use Rattle.dds_fields.specs.Reading.{Read, ◌>>=◌, or_fault, unless, a_text, a_number, natural}

-- what the text means, where it is one of the words
abbrev pub worded : {A : Type 0} → List (List ℕ × A) → List ℕ → Option A
worded [] text = None
worded (w ∷ ws) text = if bytes_eq text w.0 then Some w.1 else worded ws text

abbrev pub words_view : {A : Type 0} → List (Bor (List ℕ) × A) → List (List ℕ × A)
words_view ws = map (λ w. (w.0.now, w.1)) ws

unfoldable pub a_word : {A : Type 0} → List (List ℕ × A) → List ℕ → Data → Read A
a_word words path d = do
  text ← a_text path d
  or_fault OutOfRange path (worded words text)

unfoldable pub a_flag : List ℕ → Data → Read Bool
a_flag path d = or_fault WrongKind path (as_bool d)

unfoldable pub a_long : List ℕ → Data → Read ℕ
a_long path d = do
  z ← or_fault WrongKind path (as_integer d)
  or_fault OutOfRange path (natural z)

-- the word, or else what is read otherwise
abbrev pub word_or : {A : Type 0} → List ℕ → A → Read A → List ℕ → Option (List ℕ) → Read A
word_or word meaning other path None = other
word_or word meaning other path (Some text) = unless OutOfRange path (bytes_eq text word) meaning

-- nanoseconds, or none where it is infinite
unfoldable pub a_duration : List ℕ → Data → Read (Option ℕ)
a_duration path d = word_or (codes "infinite") None (a_long path d >>= λ n. Ok (Some n)) path (as_str d)

-- a limit, or none where it is unlimited
unfoldable pub a_limit : List ℕ → Data → Read (Option ℕ)
a_limit path d = word_or (codes "unlimited") None (a_number 1 2147483647 path d >>= λ n. Ok (Some n)) path (as_str d)
