-- Texts of words with commas between them, cut at their commas.
use Rattle.std.proofs.Common.{◌≡◌, ◌≢◌, ◌+◌, ◌<◌, ◌≤◌, ◌∙◌, ℕ, Bool, true, false, not, eqb, List, [], ◌∷◌, ◌++◌, codes, length, map, take, get_or, set, zero, suc, refl, sym, ap, arith, add-one, append-nil}
use Rattle.std.specs.List.{All, join_by, join_with_byte, list_all, slice_index_or, slice_split}
use Rattle.std.proofs.Math.Seq.{take-suc}
use Rattle.std.proofs.lemmas.List.{length-map, map-append, take_more_set}
use Rattle.std.proofs.lemmas.List.Splits.{join_with_byte-slice_split, length-slice_split, slice_split_at, slice_split_none}
use Rattle.std.proofs.lemmas.List.Sums.{AllPass-from_list_all}

-- the parts of a text between its commas
abbrev pub parts_of : List ℕ → List (List ℕ)
parts_of text = slice_split (λ b. eqb b 44) text

abbrev pub not_comma : ℕ → Bool
not_comma b = not (eqb b 44)

-- no word has a comma
abbrev pub HasNoComma : {T : Type 0} → (T → List ℕ) → Type 0
HasNoComma {T} word = (x : T) → list_all not_comma (word x) ≡ true

-- the text of a list
abbrev pub list_text : {T : Type 0} → (T → List ℕ) → List T → List ℕ
list_text word xs = join_by word (codes ",") xs

no_comma : {T : Type 0} (word : T → List ℕ) → HasNoComma word → (x : T) → All (λ b. eqb b 44 ≡ false) (word x)
no_comma word free x k d lt = not_true (eqb (slice_index_or (word x) k d) 44) (AllPass-from_list_all not_comma (word x) (free x) k d lt)
  where
    not_true : (b : Bool) → not b ≡ true → b ≡ false
    not_true true h = sym h
    not_true false h = refl

-- the words, joined in either way
joined : {T : Type 0} (word : T → List ℕ) (xs : List T) → list_text word xs ≡ join_with_byte 44 (map word xs)
joined word [] = refl
joined word (x ∷ []) = append-nil (word x)
joined word (x ∷ y ∷ xs) = ap (λ rest. word x ++ 44 ∷ rest) (joined word (y ∷ xs))

parts_of_words : {T : Type 0} (word : T → List ℕ) → HasNoComma word → (x : T) (xs : List T) → parts_of (join_with_byte 44 (map word (x ∷ xs))) ≡ map word (x ∷ xs)
parts_of_words word free x [] = slice_split_none (λ b. eqb b 44) (word x) (no_comma word free x)
parts_of_words word free x (y ∷ xs) =
    slice_split_at (λ b. eqb b 44) (word x) 44 (join_with_byte 44 (map word (y ∷ xs))) (no_comma word free x) refl
    ∙ ap (λ parts. word x ∷ parts) (parts_of_words word free y xs)

-- the parts of the text of a list are its words
pub parts_are : {T : Type 0} (word : T → List ℕ) → HasNoComma word → (text : List ℕ) (xs : List T) → 0 < length xs → text ≡ list_text word xs → parts_of text ≡ map word xs
parts_are word free text [] some is = absurd (omega (arith, some))
parts_are word free text (x ∷ xs) some is = rw (is, joined word (x ∷ xs)) (parts_of_words word free x xs)

-- a text whose parts are the words of a list is its text
pub text_is : {T : Type 0} (word : T → List ℕ) (text : List ℕ) (xs : List T) → map word xs ≡ parts_of text → text ≡ list_text word xs
text_is word text xs is = sym (join_with_byte-slice_split 44 text) ∙ (ap (join_with_byte 44) (sym is) ∙ sym (joined word xs))

-- a text of more parts than a list may have is no list's
pub too_many : {T : Type 0} (word : T → List ℕ) → HasNoComma word → (text : List ℕ) (n most : ℕ) → n ≡ most → n < length (parts_of text) → (xs : List T) → 0 < length xs → length xs ≤ most
    → text ≡ list_text word xs → ⊥
too_many word free text n most is more xs some few same =
    let count : length (parts_of text) ≡ length xs = ap length (parts_are word free text xs some same) ∙ length-map xs word in
    omega (arith, count, more, is, few)

mapped_at : {X Y : Type 0} (f : X → Y) (xs : List X) (n : ℕ) (d : Y) → n < length xs → (x : X) × (get_or (map f xs) n d ≡ f x)
mapped_at f [] n d lt = absurd (omega (arith, lt))
mapped_at f (x ∷ xs) zero d lt = (x, refl)
mapped_at f (x ∷ xs) (suc n) d lt = mapped_at f xs n d (omega (arith, lt))

-- a text with a part that is no word is no list's
pub no_word : {T : Type 0} (word : T → List ℕ) → HasNoComma word → (text : List ℕ) (n : ℕ) (part : List ℕ) → n < length (parts_of text) → part ≡ get_or (parts_of text) n part
    → ((x : T) → part ≢ word x) → (xs : List T) → 0 < length xs → text ≡ list_text word xs → ⊥
no_word word free text n part lt at none xs some same =
    let parts = parts_are word free text xs some same in
    let count : length (parts_of text) ≡ length xs = ap length parts ∙ length-map xs word in
    let found = mapped_at word xs n part (omega (arith, count, lt)) in
    none found.0 (at ∙ (ap (λ ps. get_or ps n part) parts ∙ found.1))

-- one more part is one more word
pub one_more : {T : Type 0} (word : T → List ℕ) (xs : List T) (parts : List (List ℕ)) (n : ℕ) (x : T) (part : List ℕ) → n < length xs → n < length parts → part ≡ get_or parts n part
    → part ≡ word x → map word (take n xs) ≡ take n parts → map word (take (n + 1) (set xs n x)) ≡ take (n + 1) parts
one_more word xs parts n x part lt lt_parts at is before =
    ap (map word) (take_more_set xs n x lt)
    ∙ (map-append word (take n xs) (x ∷ [])
    ∙ (ap (λ words. words ++ word x ∷ []) before
    ∙ (ap (λ w. take n parts ++ w ∷ []) (sym is) ∙ rw (add-one, take-suc parts n part lt_parts, ← at) refl)))

-- a text has a part at least
pub some_parts : {T : Type 0} (word : T → List ℕ) (text : List ℕ) (xs : List T) → map word xs ≡ parts_of text → 0 < length xs
some_parts word text xs is =
    let count : length xs ≡ length (parts_of text) = sym (length-map xs word) ∙ ap length is in
    omega (arith, count, length-slice_split (λ b. eqb b 44) text)

-- two lists with the parts of one text are of one length
pub same_length : {T : Type 0} (word : T → List ℕ) → HasNoComma word → (text : List ℕ) (xs ys : List T) → map word xs ≡ parts_of text → 0 < length ys → text ≡ list_text word ys → length xs ≡ length ys
same_length word free text xs ys is some same = sym (length-map xs word) ∙ (ap length (is ∙ parts_are word free text ys some same) ∙ length-map ys word)
