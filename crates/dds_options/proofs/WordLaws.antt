-- The words for notes, cut at their colons, and the words of a text.
use Rattle.std.proofs.Common.{◌≡◌, ◌∙◌, ◌+◌, ◌<◌, ◌||◌, ◌==◌, ℕ, Bool, true, false, eqb, List, [], ◌∷◌, ◌++◌, Option, Some, None, IfSome, is_some, length, eqb-true, take, get_or, subst, inl, inr, refl, sym, ap, arith}
use Rattle.std.specs.List.{after_first, before_first, list_any, position_or_len}
use Rattle.std.specs.Str.{bytes_eq}
use Rattle.std.proofs.lemmas.Bool.{cases_lt}
use Rattle.std.proofs.lemmas.List.{get_or_default}
use Rattle.std.proofs.lemmas.List.Folds.{list_any_more}
use Rattle.std.proofs.lemmas.List.Sums.{passes_at_first, split_at_first}
use Rattle.std.proofs.lemmas.Slice.Eq.{bytes_eq-Decides}
use Rattle.dds_options.specs.Allowed.{AreNoteWords, IsNoteWord, words_of}
use Rattle.dds_options.specs.Kinds.{kind_word}
use Rattle.dds_options.specs.declared.kinds.NoteKind.{NoteKind}
use Rattle.dds_options.specs.declared.kinds.NoteKind.TheVariants as kind

abbrev pub is_colon : ℕ → Bool
is_colon b = eqb b 58

-- a word begins with the name of a kind and a colon, and is cut there
abbrev IsCut : NoteKind → (rest : List ℕ) → Type 0
IsCut k rest =
    (before_first is_colon (kind_word k ++ 58 ∷ rest) ≡ kind_word k) × (after_first is_colon (kind_word k ++ 58 ∷ rest) ≡ rest)

is_cut : (k : NoteKind) (rest : List ℕ) → IsCut k rest
is_cut kind.Watcher rest = (refl, refl)
is_cut kind.MayLose rest = (refl, refl)
is_cut kind.Unlimited rest = (refl, refl)
is_cut kind.IdleLimit rest = (refl, refl)
is_cut kind.IdleReader rest = (refl, refl)
is_cut kind.Stalls rest = (refl, refl)
is_cut kind.PaceUnused rest = (refl, refl)
is_cut kind.UnwrittenKey rest = (refl, refl)
is_cut kind.IdleWriter rest = (refl, refl)
is_cut kind.UnheardWriter rest = (refl, refl)
is_cut kind.NoRules rest = (refl, refl)
is_cut kind.NoStart rest = (refl, refl)
is_cut kind.NoStrictReader rest = (refl, refl)
is_cut kind.StuckRule rest = (refl, refl)
is_cut kind.Stops rest = (refl, refl)
is_cut kind.Finite rest = (refl, refl)
is_cut kind.LossyTake rest = (refl, refl)
is_cut kind.UnusedRow rest = (refl, refl)
is_cut kind.NeedlessBound rest = (refl, refl)
is_cut kind.NeedlessTotal rest = (refl, refl)
is_cut kind.Incompatible rest = (refl, refl)
is_cut kind.HeldUp rest = (refl, refl)
is_cut kind.LateReader rest = (refl, refl)

-- the parts round the colon of a word
abbrev pub AreParts : (word name about : List ℕ) → Type 0
AreParts word name about = (position_or_len is_colon word < length word) × (name ≡ before_first is_colon word) × (about ≡ after_first is_colon word)

-- a word is its parts, with the colon between them
joined : (word name about : List ℕ) → AreParts word name about → word ≡ name ++ 58 ∷ about
joined word name about (lt, first, last) =
    split_at_first is_colon word 58 lt
    ∙ (ap (λ b. before_first is_colon word ++ b ∷ after_first is_colon word) (eqb-true (get_or word (position_or_len is_colon word) 58) 58 (passes_at_first is_colon word 58 lt))
    ∙ rw (first, last) refl)

-- a word with a colon that is that of a note of this kind: its parts are the name of the kind and the name behind it
name_is : (word name about : List ℕ) (k : NoteKind) (rest : List ℕ) → AreParts word name about → word ≡ kind_word k ++ 58 ∷ rest → name ≡ kind_word k
name_is word name about k rest (lt, first, last) is = first ∙ (ap (before_first is_colon) is ∙ (is_cut k rest).0)

about_is : (word name about : List ℕ) (k : NoteKind) (rest : List ℕ) → AreParts word name about → word ≡ kind_word k ++ 58 ∷ rest → about ≡ rest
about_is word name about k rest (lt, first, last) is = last ∙ (ap (after_first is_colon) is ∙ (is_cut k rest).1)

-- ── whether a word is that of a note
pub parts_yes : (word name about : List ℕ) (r : Option NoteKind) (b : Bool) → AreParts word name about → IfSome r (λ k. name ≡ kind_word k) → (length about == 0) ≡ false → b ≡ is_some r
    → b ≡ true → IsNoteWord word
parts_yes word name [] r b parts named some is holds = cc
parts_yes word name (x ∷ about) (Some k) b parts named some is holds = (k, x ∷ about, joined word name (x ∷ about) parts ∙ ap (λ n. n ++ 58 ∷ x ∷ about) named)
parts_yes word name (x ∷ about) None b parts named some is holds = let no : true ≡ false = sym holds ∙ is in cc

pub whole_yes : (word : List ℕ) (r : Option NoteKind) (b : Bool) → IfSome r (λ k. word ≡ kind_word k) → b ≡ is_some r → b ≡ true → IsNoteWord word
whole_yes word (Some k) b named is holds = (k, [], named)
whole_yes word None b named is holds = let no : true ≡ false = sym holds ∙ is in cc

-- ── whether a word is about something
agree : (a b : Bool) → (a ≡ true → b ≡ true) → (b ≡ true → a ≡ true) → a ≡ b
agree true b there back = sym (there refl)
agree false true there back = back refl
agree false false there back = refl

-- the name before the colon is that of the kind
pub same_about : (word name about : List ℕ) (k : NoteKind) (subject : List ℕ) → AreParts word name about → name ≡ kind_word k
    → bytes_eq about subject ≡ bytes_eq word (kind_word k ++ 58 ∷ subject)
same_about word name about k subject parts named =
    agree (bytes_eq about subject) (bytes_eq word (kind_word k ++ 58 ∷ subject))
    (λ same. (bytes_eq-Decides word (kind_word k ++ 58 ∷ subject)).1
    (joined word name about parts ∙ (ap (λ n. n ++ 58 ∷ about) named ∙ ap (λ s. kind_word k ++ 58 ∷ s) ((bytes_eq-Decides about subject).0 same))))
    (λ same. (bytes_eq-Decides about subject).1 (about_is word name about k subject parts ((bytes_eq-Decides word (kind_word k ++ 58 ∷ subject)).0 same)))

-- ── the words of a text
abbrev pub AreSoFar : (text : List ℕ) (n : ℕ) → Type 0
AreSoFar text n = (k : ℕ) (d : List ℕ) → k < n → IsNoteWord (get_or (words_of text) k d)

-- one more of them is that of a note
pub all_more : (text : List ℕ) (n : ℕ) (word : List ℕ) → n < length (words_of text) → word ≡ get_or (words_of text) n word → IsNoteWord word → AreSoFar text n
    → (k : ℕ) (d : List ℕ) → k < n + 1 → IsNoteWord (get_or (words_of text) k d)
all_more text n word lt at note before k d small = elim (cases_lt k n) [
  | inl less ↦ before k d less
  | inr more ↦
      let last : k ≡ n = omega (arith, more, small) in
      subst IsNoteWord (at ∙ (get_or_default (words_of text) n word d lt ∙ ap (λ i. get_or (words_of text) i d) (sym last))) note
]

-- one of them that isn't is enough
pub not_all : (text : List ℕ) (n : ℕ) (word : List ℕ) → n < length (words_of text) → word ≡ get_or (words_of text) n word → ¬ IsNoteWord word → ¬ AreNoteWords text
not_all text n word lt at other = λ all. other (subst IsNoteWord (sym at) (all n word lt))

-- one more of them, which lets a note pass or not
any_more : (test : List ℕ → Bool) (text : List ℕ) (n m : ℕ) (word : List ℕ) (here any : Bool) → n < length (words_of text) → m ≡ n + 1 → word ≡ get_or (words_of text) n word → here ≡ test word
    → any ≡ list_any test (take n (words_of text)) → (here || any) ≡ list_any test (take m (words_of text))
any_more test text n m word here any lt one at is before =
    swapped here any
    ∙ (ap (λ b. b || here) before
    ∙ (ap (λ b. list_any test (take n (words_of text)) || b) (is ∙ ap test at)
    ∙ (sym (list_any_more test (words_of text) n word lt) ∙ ap (λ k. list_any test (take k (words_of text))) (sym one))))
  where
    swapped : (a b : Bool) → (a || b) ≡ (b || a)
    swapped true true = refl
    swapped true false = refl
    swapped false true = refl
    swapped false false = refl

pub any_found : (test : List ℕ → Bool) (text : List ℕ) (n m : ℕ) (word : List ℕ) (here any : Bool) → n < length (words_of text) → m ≡ n + 1 → word ≡ get_or (words_of text) n word
    → here ≡ test word → any ≡ list_any test (take n (words_of text)) → here ≡ true → here ≡ list_any test (take m (words_of text))
any_found test text n m word here any lt one at is before found = settled here any found ∙ any_more test text n m word here any lt one at is before
  where
    settled : (a b : Bool) → a ≡ true → a ≡ (a || b)
    settled true b h = refl
    settled false b h = cc

pub any_kept : (test : List ℕ → Bool) (text : List ℕ) (n m : ℕ) (word : List ℕ) (here any : Bool) → n < length (words_of text) → m ≡ n + 1 → word ≡ get_or (words_of text) n word
    → here ≡ test word → any ≡ list_any test (take n (words_of text)) → here ≡ false → any ≡ list_any test (take m (words_of text))
any_kept test text n m word here any lt one at is before missed = left here any missed ∙ any_more test text n m word here any lt one at is before
  where
    left : (a b : Bool) → a ≡ false → b ≡ (a || b)
    left true b h = cc
    left false b h = refl
