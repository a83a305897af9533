-- The column after one more byte.
use Rattle.std.proofs.Common.{◌≡◌, ◌<◌, ◌+◌, ℕ, Bool, true, false, not, cond, List, [], ◌∷◌, ◌++◌, filter, get_or, length, take, take_while, reverse, if◌then◌else◌, ◌==◌, refl, ap, ◌∙◌, arith}
use Rattle.std.proofs.lemmas.List.{reverse-append, take_more}
use Rattle.std.proofs.lemmas.List.Sums.{take_while-cons}
use Rattle.dds_locate.specs.Spans.{begins_character, column_after}

-- the column after a byte that comes after a column
abbrev next_column : ℕ → ℕ → ℕ
next_column column byte = if byte == 10 then 1 else if begins_character byte then column + 1 else column

-- by whether the byte is a line feed, and whether it begins a character
counted : (is_feed begins : Bool) (byte : ℕ) (line : List ℕ) → begins_character byte ≡ begins
    → 1 + length (filter begins_character (cond (not is_feed) (byte ∷ line) []))
    ≡ cond is_feed 1 (cond begins (1 + length (filter begins_character line) + 1) (1 + length (filter begins_character line)))
counted true begins byte line is = refl
counted false true byte line is = rw is (omega arith)
counted false false byte line is = rw is refl

pub column_push : (xs : List ℕ) (byte : ℕ) → column_after (xs ++ byte ∷ []) ≡ next_column (column_after xs) byte
column_push xs byte =
    ap (λ back. 1 + length (filter begins_character (take_while (λ b. not (b == 10)) back))) (reverse-append xs (byte ∷ []))
    ∙ (ap (λ line. 1 + length (filter begins_character line)) (take_while-cons (λ b. not (b == 10)) byte (reverse xs))
    ∙ counted (byte == 10) (begins_character byte) byte (take_while (λ b. not (b == 10)) (reverse xs)) refl)

pub column_more : (xs : List ℕ) (i d : ℕ) → i < length xs → column_after (take (i + 1) xs) ≡ next_column (column_after (take i xs)) (get_or xs i d)
column_more xs i d within = ap column_after (take_more xs i d within) ∙ column_push (take i xs) (get_or xs i d)
