-- What is found of a name in a list of names, and of a text that is read as a number.
use Rattle.std.proofs.Common.{codes, ◌+◌, subst, ◌^◌, Ok, Err, Result, zero, suc, inl, inr, ◌≡◌, ◌≢◌, ◌∙◌, ◌<◌, ℕ, Bool, true, false, Option, None, Some, IfSome, IfNone, List, [], ◌∷◌, length, get_or, cond, nat_lt, refl, sym, true≢false, arith}
use Rattle.std.specs.Str.{bytes_eq}
use Rattle.std.specs.List.{position_or_len}
use Rattle.std.proofs.lemmas.Bool.Decides.{nat_tests}
use Rattle.std.proofs.lemmas.List.{append_cancel_left}
use Rattle.std.specs.Result.{result_ok}
use Rattle.std.proofs.lemmas.List.Quantifiers.{position-Some}
use Rattle.std.proofs.lemmas.List.Sums.{fails_before_first}
use Rattle.std.proofs.lemmas.Bool.{cases_eq}
use Rattle.std.specs.Fmt.{decimal}
use Rattle.std.specs.Str.Parse.{AllDigits, ParsesUnsigned, digits_value}
use Rattle.std.proofs.lemmas.Fmt.{decimal-digits_value, decimal_digit, first_decimal, parse-decimal}
use Rattle.std.proofs.lemmas.Str.Parse.{IsNumeralModel, parse_plain}
use Rattle.std.proofs.lemmas.Option.{unwrap_or-slice_get}
use Rattle.std.proofs.lemmas.Slice.Eq.{bytes_eq-Decides}
use Rattle.dds_base.specs.Names.{number_of}
use Rattle.dds_text.specs.Names.{name_at}
use Rattle.dds_text.specs.Texts.{two_words}
use Rattle.dds_events.specs.Words.{IsPlain}

-- the name with the number that was found
pub place_some : (names : List (List ℕ)) (name : List ℕ) (r : Option ℕ) → r ≡ number_of names name → IfSome r (λ n. name_at names n ≡ name)
place_some names name None is = tt
place_some names name (Some n) is =
    unwrap_or-slice_get names n [] ∙ sym ((bytes_eq-Decides name (get_or names n [])).0 (position-Some (bytes_eq name) names n [] (sym is)).1)

none_is : {A : Type 0} (b : Bool) (x : A) → None ≡ cond b (Some x) None → b ≡ false
none_is true x e = absurd cc
none_is false x e = refl

-- no name is one that was not found
pub place_none : (names : List (List ℕ)) (name : List ℕ) (r : Option ℕ) → r ≡ number_of names name → IfNone r ((n : ℕ) → n < length names → name_at names n ≢ name)
place_none names name (Some n) is = tt
place_none names name None is = λ n lt same.
    let past : nat_lt (position_or_len (bytes_eq name) names) (length names) ≡ false = none_is _ (position_or_len (bytes_eq name) names) is in
    let before : n < position_or_len (bytes_eq name) names = grind (arith, nat_tests) in
    true≢false (sym ((bytes_eq-Decides name (get_or names n [])).1 (sym same ∙ unwrap_or-slice_get names n [])) ∙ fails_before_first (bytes_eq name) names n [] before)

own : IsNumeralModel (AllDigits 10) (digits_value 10)
own = record { to = λ ds h. h; from = λ ds h. h; same = λ ds h. refl }

-- the decimal text of a number is plain
pub decimal_plain : (n : ℕ) (text : List ℕ) → n < 2 ^ 64 → decimal n ≡ text → IsPlain text
decimal_plain zero text fits is =
    let one : text ≡ 48 ∷ [] = sym is ∙ decimal_digit 0 (omega arith) in
    rw one ((λ h. absurd (omega (arith, h))), λ h. refl)
decimal_plain (suc n) text fits is =
    let first : 48 < get_or text 0 0 = rw (← is) (first_decimal (suc n) (omega arith) fits) in
    ((λ h. absurd (omega (arith, h, first))), λ h. absurd (omega (arith, h, first)))

-- a plain text that is read is the decimal text of what it is read as
pub parsed_some : {E : Type 0} (text : List ℕ) (r : Result ℕ E) (o : Option ℕ) → IsPlain text → ParsesUnsigned 64 10 text r → o ≡ result_ok r → IfSome o (λ n. decimal n ≡ text)
parsed_some text (Err e) o plain h is = rw is tt
parsed_some {E} text (Ok m) o plain h is =
    let p = parse_plain own {E = E} 64 text (Ok m) h plain.0 in
    rw (is, p.1) (decimal-digits_value own text p.0.0 p.0.1 plain.1 p.0.2)

-- a text that is not read is the decimal text of no number
pub parsed_none : {E : Type 0} (text : List ℕ) (r : Result ℕ E) (o : Option ℕ) → ParsesUnsigned 64 10 text r → o ≡ result_ok r → IfNone o ((n : ℕ) → n < 2 ^ 64 → decimal n ≢ text)
parsed_none text (Ok m) o h is = rw is tt
parsed_none {E} text (Err e) o h is = rw is (λ n fits same. absurd (cc (parse-decimal {E = E} 64 n text (Err e) fits fits (sym same) h)))

-- one text stands after a word and a blank
pub one_after : (word rest text other : List ℕ) → two_words word rest ≡ text → two_words word other ≡ text → other ≡ rest
one_after word rest text other is same = append_cancel_left (codes " ") other rest (append_cancel_left word _ _ (same ∙ sym is))

-- what holds below a number and at it holds below the next
pub one_more : (P : ℕ → Type 0) (n : ℕ) → ((m : ℕ) → m < n → P m) → P n → (m : ℕ) → m < n + 1 → P m
one_more P n below here m lt = elim (cases_eq m n) [
  | inl same ↦ subst P (sym same) here
  | inr other ↦ below m (omega (arith, other, lt))
]

-- what follows where nothing was found
pub none_weaker : {A : Type 0} (o : Option A) (P Q : Type 0) → (P → Q) → IfNone o P → IfNone o Q
none_weaker (Some x) P Q gives h = tt
none_weaker None P Q gives h = gives h
