-- The place of a name among texts, and among their bytes.
use Rattle.std.proofs.Common.{◌≡◌, ℕ, ◌<◌, suc, zero, Bool, true, false, cond, List, [], ◌∷◌, ◌++◌, length, map, None, Some, nat_lt, refl, position, slice_get, true≢false, length-append, not, arith, ◌∙◌}
use Rattle.std.specs.Cmp.{IsEquivalence}
use Rattle.std.specs.List.{prefix_len, position_or_len, list_any, AllByRecursion, IsDistinct}
use Rattle.std.specs.Str.{bytes_eq}
use Rattle.std.proofs.lemmas.Bool.Decides.{nat_tests}
use Rattle.std.proofs.lemmas.Cmp.{nat_list_eq_equiv}
use Rattle.std.proofs.lemmas.Option.{slice_get_within}
use Rattle.dds_base.specs.Names.{number_of}

prefix_len-map : {A B : Type 0} (p : B → Bool) (f : A → B) (xs : List A) → prefix_len p (map f xs) ≡ prefix_len (λ x. p (f x)) xs
prefix_len-map p f [] = refl
prefix_len-map p f (x ∷ xs) = rw (prefix_len-map p f xs)

pub length-mapped : {A B : Type 0} (f : A → B) (xs : List A) → length (map f xs) ≡ length xs
length-mapped f [] = refl
length-mapped f (x ∷ xs) = rw (length-mapped f xs)

pub position-map : {A B : Type 0} (p : B → Bool) (f : A → B) (xs : List A) → position p (map f xs) ≡ position (λ x. p (f x)) xs
position-map p f xs = rw (prefix_len-map (λ y. not (p y)) f xs, length-mapped f xs)

at_head : {A : Type 0} (p : A → Bool) (x : A) (xs : List A) (b : Bool) → p x ≡ b → list_any p xs ≡ nat_lt (position_or_len p xs) (length xs) → list_any p (x ∷ xs) ≡ nat_lt (position_or_len p (x ∷ xs)) (length (x ∷ xs))
at_head p x xs true e h = rw e (grind (arith, nat_tests))
at_head p x xs false e h = rw (e, h) (grind (arith, nat_tests))

pub list_any-position : {A : Type 0} (p : A → Bool) (xs : List A) → list_any p xs ≡ nat_lt (position_or_len p xs) (length xs)
list_any-position p [] = refl
list_any-position p (x ∷ xs) = at_head p x xs (p x) refl (list_any-position p xs)

none_is : {A : Type 0} (b : Bool) (x : A) → cond b (Some x) None ≡ None → b ≡ false
none_is true x e = absurd cc
none_is false x e = refl

pub absent : {A : Type 0} (p : A → Bool) (xs : List A) → position p xs ≡ None → list_any p xs ≡ false
absent p xs e = list_any-position p xs ∙ none_is (nat_lt (position_or_len p xs) (length xs)) (position_or_len p xs) e

-- p passes at no element of y ∷ ys, so neither at y
at_rest : {A : Type 0} (p : A → Bool) (x y : A) (ys : List A) (b : Bool) → p y ≡ b → list_any p (y ∷ ys) ≡ false → (list_any p ys ≡ false → position_or_len p (ys ++ x ∷ []) ≡ length ys) → position_or_len p (y ∷ (ys ++ x ∷ [])) ≡ length (y ∷ ys)
at_rest p x y ys true q e h = absurd (true≢false (rw q at e))
at_rest p x y ys false q e h = rw (q, h (rw q at e)) (omega arith)

-- where p passes at none of xs, the first place at which it passes may be right after them
after_all : {A : Type 0} (p : A → Bool) (x : A) (xs : List A) → list_any p xs ≡ false → p x ≡ true → position_or_len p (xs ++ x ∷ []) ≡ length xs
after_all p x [] e h = rw h refl
after_all p x (y ∷ ys) e h = at_rest p x y ys (p y) refl e (λ r. after_all p x ys r h)

-- what passes only at the end is found there
pub position-push : {A : Type 0} (p : A → Bool) (x : A) (xs : List A) → position p xs ≡ None → p x ≡ true → position p (xs ++ x ∷ []) ≡ Some (length xs)
position-push p x xs e h = rw (after_all p x xs (absent p xs e) h, length-append xs (x ∷ [])) (grind (arith, nat_tests))

-- a name that was added at the end has the number of names before as its number
pub numbered : (names : List (List ℕ)) (new : List (List ℕ)) (name : List ℕ) (n : ℕ) → new ≡ names ++ name ∷ [] → number_of names name ≡ None → n ≡ length names → number_of new name ≡ Some n
numbered names new name n is_pushed absent_before is_next =
    rw (is_pushed, is_next) (position-push (bytes_eq name) name names absent_before (nat_list_eq_equiv.refl name))

-- what is not at the head has the next place
in_rest : {A : Type 0} (p : A → Bool) (x : A) (xs : List A) (i : ℕ) → p x ≡ false → position_or_len p xs ≡ i → position_or_len p (x ∷ xs) ≡ suc i
in_rest p x xs i h e = rw (h, e) (omega arith)

-- what differs from each of ys differs from the one at i
differs_from_each : {A : Type 0} (eq : A → A → Bool) (y : A) (ys : List A) (i : ℕ) (x : A) → AllByRecursion (λ z. eq y z ≡ false) ys → slice_get ys i ≡ Some x → eq y x ≡ false
differs_from_each eq y [] i x h at = absurd cc
differs_from_each eq y (z ∷ zs) zero x h at = let same : z ≡ x = cc in rw (← same) h.0
differs_from_each eq y (z ∷ zs) (suc i) x h at = differs_from_each eq y zs i x h.1 at

-- among distinct elements the first that equals the one at i is that one
own_place : {A : Type 0} (eq : A → A → Bool) → IsEquivalence eq → (xs : List A) (i : ℕ) (x : A) → IsDistinct eq xs → slice_get xs i ≡ Some x → position_or_len (eq x) xs ≡ i
unfolding IsDistinct
own_place eq laws [] i x d at = absurd cc
own_place eq laws (y ∷ ys) zero x d at = let same : y ≡ x = cc in rw (same, laws.refl x) refl
own_place eq laws (y ∷ ys) (suc i) x d at =
    in_rest (eq x) y ys i (laws.symm x y ∙ differs_from_each eq y ys i x d.0 at) (own_place eq laws ys i x d.1 at)

-- an element of distinct ones is found at its own place
pub position-own : {A : Type 0} (eq : A → A → Bool) → IsEquivalence eq → (xs : List A) (i : ℕ) (x : A) → IsDistinct eq xs → slice_get xs i ≡ Some x → position (eq x) xs ≡ Some i
position-own eq laws xs i x d at =
    let within : i < length xs = slice_get_within xs i x at in
    rw (own_place eq laws xs i x d at) (grind (arith, nat_tests))
