-- The first of several that is there, as a loop finds it.
use Rattle.std.proofs.Common.{ℕ, Bool, true, false, ◌&&◌, ◌≡◌, ◌+◌, ◌<◌, ◌≤◌, zero, suc, Option, Some, None, refl, sym, ap, ◌∙◌, subst, ⊎_elim, arith, add-one}
use Rattle.std.proofs.Common.{List, length, slice_get}
use Rattle.std.proofs.lemmas.Bool.{cases_lt}
use Rattle.std.proofs.lemmas.Option.{none-some, slice_get_within}
use Rattle.std.specs.Option.{option_map_or}
use Rattle.dds_runs.specs.First.{◌orElse◌, first_below, at_item, first_in, all_below}

pub first_below_start : {A : Type 0} (f : ℕ → Option A) → first_below 0 f ≡ None
unfolding first_below
first_below_start f = refl

-- the loop stops at the first that is there
pub first_below_found : {A : Type 0} (f : ℕ → Option A) (i j n : ℕ) (e : A) → j ≡ i → first_below i f ≡ None → f j ≡ Some e → i < n → first_below n f ≡ Some e
unfolding first_below
first_below_found f i j zero e same none found h = absurd (omega arith)
first_below_found f i j (suc n) e same none found h =
    ⊎_elim
    (λ (before : i < n). let earlier = first_below_found f i j n e same none found before in rw earlier refl)
    (λ (at : n ≤ i). let here : i ≡ n = omega arith in
    let P : ℕ → Type 0 = λ m. first_below m f orElse f m ≡ Some e in
    subst P here (rw (none, ap f (sym same), found) refl))
    (cases_lt i n)

-- the loop goes on
pub first_below_more : {A : Type 0} (f : ℕ → Option A) (i : ℕ) → first_below i f ≡ None → f i ≡ None → first_below (i + 1) f ≡ None
unfolding first_below
first_below_more f i none passes = rw (add-one, none) passes

pub first_below_next : {A : Type 0} (f : ℕ → Option A) (i j : ℕ) → j ≡ i → first_below i f ≡ None → f j ≡ None → first_below (i + 1) f ≡ None
first_below_next f i j same none passes = first_below_more f i none (ap f (sym same) ∙ passes)

pub orElse_none : {A : Type 0} (o q : Option A) → o orElse q ≡ None → (o ≡ None) × (q ≡ None)
orElse_none None q h = (refl, h)
orElse_none (Some x) q h = absurd (none-some x (sym h))

-- none is there
pub first_below_none : {A : Type 0} (f : ℕ → Option A) (n : ℕ) → first_below n f ≡ None → (k : ℕ) → k < n → f k ≡ None
unfolding first_below
first_below_none f zero none k h = absurd (omega arith)
first_below_none f (suc n) none k h =
    let parts = orElse_none (first_below n f) (f n) none in
    ⊎_elim
    (λ (before : k < n). first_below_none f n parts.0 k before)
    (λ (at : n ≤ k). let same : k ≡ n = omega arith in rw same parts.1)
    (cases_lt k n)

-- each of them is none
pub first_below_all : {A : Type 0} (f : ℕ → Option A) (n : ℕ) → ((i : ℕ) → i < n → f i ≡ None) → first_below n f ≡ None
unfolding first_below
first_below_all f zero none = refl
first_below_all f (suc n) none = let earlier = first_below_all f n (λ i l. none i (omega arith)) in rw earlier (none n (omega arith))

-- the same for the elements of a list
pub first_in_found : {X A : Type 0} (xs : List X) (f : X → ℕ → Option A) (i j : ℕ) (x : X) (e : A) → j ≡ i → slice_get xs j ≡ Some x → first_below i (at_item xs f) ≡ None → f x j ≡ Some e → first_in xs f ≡ Some e
first_in_found xs f i j x e same here none found =
    let inside = slice_get_within xs j x here in
    let at : at_item xs f j ≡ Some e = rw here found in
    first_below_found (at_item xs f) i j (length xs) e same none at (omega arith)

pub first_in_more : {X A : Type 0} (xs : List X) (f : X → ℕ → Option A) (i j : ℕ) (x : X) → j ≡ i → slice_get xs j ≡ Some x → first_below i (at_item xs f) ≡ None → f x j ≡ None → first_below (i + 1) (at_item xs f) ≡ None
first_in_more xs f i j x same here none passes =
    let at : at_item xs f j ≡ None = rw here passes in
    first_below_more (at_item xs f) i none (subst (λ n. at_item xs f n ≡ None) same at)

-- the loop goes on, whether there was one or not
pub first_in_next : {X A : Type 0} (xs : List X) (f : X → ℕ → Option A) (n : ℕ) (x : X) (was now : Option A) → slice_get xs n ≡ Some x → was ≡ first_below n (at_item xs f) → now ≡ (was orElse f x n) → now ≡ first_below (n + 1) (at_item xs f)
unfolding first_below
first_in_next xs f n x was now here before joined = rw (add-one, here, ← before) joined

pub first_in_none : {X A : Type 0} (xs : List X) (f : X → ℕ → Option A) → first_in xs f ≡ None → (i : ℕ) (x : X) → slice_get xs i ≡ Some x → f x i ≡ None
first_in_none {X} {A} xs f none i x here =
    let at = first_below_none (at_item xs f) (length xs) none i (slice_get_within xs i x here) in
    let P : Option X → Type 0 = λ o. option_map_or (λ y. f y i) o None ≡ None in subst P here at

pub all_below_start : (f : ℕ → Bool) → all_below 0 f ≡ true
unfolding all_below
all_below_start f = refl

pub all_below_more : (f : ℕ → Bool) (i : ℕ) → all_below (i + 1) f ≡ (all_below i f && f i)
unfolding all_below
all_below_more f i = rw add-one

pub both_first : (x y : Bool) → (x && y) ≡ true → x ≡ true
both_first true y h = refl
both_first false y h = h

pub both_second : (x y : Bool) → (x && y) ≡ true → y ≡ true
both_second true y h = h
both_second false y h = absurd (grind arith)

-- each holds
pub all_below_at : (n : ℕ) (f : ℕ → Bool) → all_below n f ≡ true → (i : ℕ) → i < n → f i ≡ true
unfolding all_below
all_below_at zero f h i l = absurd (omega arith)
all_below_at (suc n) f h i l =
    ⊎_elim
    (λ (before : i < n). all_below_at n f (both_first (all_below n f) (f n) h) i before)
    (λ (at : n ≤ i). let same : i ≡ n = omega arith in rw same (both_second (all_below n f) (f n) h))
    (cases_lt i n)

and_false : (x y : Bool) → y ≡ false → (x && y) ≡ false
and_false true y fails = fails
and_false false y fails = refl

-- one fails
pub all_below_fails : (n : ℕ) (f : ℕ → Bool) (i : ℕ) → i < n → f i ≡ false → all_below n f ≡ false
unfolding all_below
all_below_fails zero f i l fails = absurd (omega arith)
all_below_fails (suc n) f i l fails =
    ⊎_elim
    (λ (before : i < n). let earlier = all_below_fails n f i before fails in rw earlier refl)
    (λ (at : n ≤ i). let same : i ≡ n = omega arith in and_false (all_below n f) (f n) (ap f (sym same) ∙ fails))
    (cases_lt i n)
