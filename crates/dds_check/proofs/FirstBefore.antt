-- The first element of a list that passes, as a loop finds it, and of two tests one after the other.
use Rattle.std.proofs.Common.{ℕ, Bool, true, false, ◌||◌, ◌≡◌, ◌+◌, ◌<◌, ◌≤◌, List, slice_get, Some, refl, sym, ap, ◌∙◌, subst, ⊎_elim, arith}
use Rattle.std.proofs.lemmas.Bool.{cases_lt}
use Rattle.std.proofs.lemmas.Option.{same_Some}
use Rattle.dds_runs.specs.First.{NoneBefore, IsFirstBefore}

pub none_at_start : {X : Type 0} (xs : List X) (passes : X → Bool) → NoneBefore xs passes 0
none_at_start xs passes i x l at = absurd (omega arith)

-- the loop goes on
pub none_more : {X : Type 0} (xs : List X) (passes : X → Bool) (n : ℕ) (y : X) → NoneBefore xs passes n → slice_get xs n ≡ Some y → passes y ≡ false → NoneBefore xs passes (n + 1)
none_more xs passes n y before here fails i x l at =
    ⊎_elim
    (λ (b : i < n). before i x b at)
    (λ (a : n ≤ i). let same : n ≡ i = omega arith in
    let there : Some y ≡ Some x = sym here ∙ ap (slice_get xs) same ∙ at in
    subst (λ z. passes z ≡ false) (same_Some y x there) fails)
    (cases_lt i n)

-- the loop stops at the first that passes
pub found_first : {X : Type 0} (xs : List X) (passes : X → Bool) (end n : ℕ) (y : X) → n < end → NoneBefore xs passes n → slice_get xs n ≡ Some y → passes y ≡ true → IsFirstBefore xs passes end n
found_first xs passes end n y low before there good = record {
  within = omega arith;
  before = before;
  here = λ x l at. subst (λ z. passes z ≡ true) (same_Some y x (sym there ∙ at)) good;
}

-- the loop comes to the end
pub none_found : {X : Type 0} (xs : List X) (passes : X → Bool) (end i n : ℕ) → end ≤ i → n ≡ end → NoneBefore xs passes i → IsFirstBefore xs passes end n
none_found xs passes end i n past same before = record {
  within = omega arith;
  before = λ j x l at. before j x (omega arith) at;
  here = λ x l at. absurd (omega arith);
}

-- a test that answers the same
pub first_of_same : {X : Type 0} (xs : List X) (p q : X → Bool) (end n : ℕ) → ((x : X) → p x ≡ q x) → IsFirstBefore xs p end n → IsFirstBefore xs q end n
first_of_same xs p q end n same first = record {
  within = first.within;
  before = λ i x l at. sym (same x) ∙ first.before i x l at;
  here = λ x l at. sym (same x) ∙ first.here x l at;
}

either_no : (x y : Bool) → x ≡ false → y ≡ false → (x || y) ≡ false
either_no x y h g = rw (h, g) refl

either_first : (x y : Bool) → x ≡ true → (x || y) ≡ true
either_first x y h = rw h refl

either_second : (x y : Bool) → y ≡ true → (x || y) ≡ true
either_second true y h = refl
either_second false y h = h

-- the first before the first that passes another test is the first that passes one of both
pub first_of_either : {X : Type 0} (xs : List X) (p q : X → Bool) (end n m : ℕ) → IsFirstBefore xs p end n → IsFirstBefore xs q n m → IsFirstBefore xs (λ x. p x || q x) end m
first_of_either xs p q end n m one two =
    let low = one.within in
    let lower = two.within in
    record {
      within = omega arith;
      before = λ i x l at. either_no (p x) (q x) (one.before i x (omega arith) at) (two.before i x l at);
      here = λ x l at. ⊎_elim
          (λ (b : m < n). either_second (p x) (q x) (two.here x b at))
          (λ (a : n ≤ m). let same : m ≡ n = omega arith in
          either_first (p x) (q x) (one.here x (omega arith) (ap (slice_get xs) (sym same) ∙ at)))
          (cases_lt m n);
    }
