-- The first rule that serves a write, as a loop finds it.
use Rattle.std.proofs.Common.{◌≡◌, ℕ, zero, suc, ◌+◌, ◌<◌, ◌≤◌, Bool, true, false, List, [], ◌∷◌, length, take, get_or, Some, None, position, refl, sym, ap, ◌∙◌, arith}
use Rattle.std.specs.List.{list_any, position_or_len}
use Rattle.std.proofs.lemmas.Bool.{or_parts}
use Rattle.std.proofs.lemmas.Bool.Decides.{nat_tests}
use Rattle.std.proofs.lemmas.List.Folds.{list_any_more}
use Rattle.dds_base.proofs.Places.{list_any-position}

next : {A : Type 0} (p : A → Bool) (x : A) (xs : List A) (i : ℕ) → p x ≡ false → position_or_len p xs ≡ i → position_or_len p (x ∷ xs) ≡ suc i
next p x xs i fails e = rw (fails, e) (omega arith)

here : {A : Type 0} (p : A → Bool) (xs : List A) (n : ℕ) (d : A) → n < length xs → list_any p (take n xs) ≡ false → p (get_or xs n d) ≡ true → position_or_len p xs ≡ n
here p [] n d within none passes = absurd (omega arith)
here p (x ∷ xs) zero d within none passes = rw passes refl
here p (x ∷ xs) (suc n) d within none passes = let parts = or_parts _ _ none in next p x xs n parts.0 (here p xs n d (omega arith) parts.1 passes)

-- the first that passes, after none of those before it
pub first_at : {A : Type 0} (p : A → Bool) (xs : List A) (n : ℕ) (x : A) → n < length xs → x ≡ get_or xs n x → list_any p (take n xs) ≡ false → p x ≡ true → Some n ≡ position p xs
first_at p xs n x within at none passes = let place = here p xs n x within none (ap p (sym at) ∙ passes) in rw place (grind (arith, nat_tests))

-- one more that doesn't pass
pub none_more : {A : Type 0} (p : A → Bool) (xs : List A) (n : ℕ) (x : A) → n < length xs → x ≡ get_or xs n x → list_any p (take n xs) ≡ false → p x ≡ false → list_any p (take (n + 1) xs) ≡ false
none_more p xs n x within at none fails = list_any_more p xs n x within ∙ (let e : p (get_or xs n x) ≡ false = ap p (sym at) ∙ fails in rw (none, e) refl)

-- none passes
pub none_at_all : {A : Type 0} (p : A → Bool) (xs : List A) → list_any p xs ≡ false → None ≡ position p xs
none_at_all p xs none = let past = sym (list_any-position p xs) ∙ none in rw past refl

all_taken : {A : Type 0} (xs : List A) (n : ℕ) → length xs ≤ n → take n xs ≡ xs
all_taken [] zero past = refl
all_taken [] (suc n) past = refl
all_taken (x ∷ xs) zero past = absurd (omega arith)
all_taken (x ∷ xs) (suc n) past = ap (λ ys. x ∷ ys) (all_taken xs n (omega arith))

-- none passes, as a loop over all finds
pub none_at_end : {A : Type 0} (p : A → Bool) (xs : List A) (n : ℕ) → length xs ≤ n → list_any p (take n xs) ≡ false → None ≡ position p xs
none_at_end p xs n past none = none_at_all p xs (ap (list_any p) (sym (all_taken xs n past)) ∙ none)
