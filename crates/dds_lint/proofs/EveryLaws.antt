-- All that is there of several, as loops find it.
use Rattle.std.proofs.Common.{ℕ, zero, suc, ◌≡◌, ◌+◌, List, [], ◌∷◌, ◌++◌, length, slice_get, Option, Some, None, refl, sym, add-one}
use Rattle.std.proofs.lemmas.List.{append_assoc, append-nil}
use Rattle.std.specs.Option.{option_map_or, option_to_list}
use Rattle.dds_runs.specs.First.{◌orElse◌, first_below, first_in, at_item}
use Rattle.dds_lint.specs.Every.{every_below, those_below, every_in}

-- nothing is added yet
pub every_below_start : {A : Type 0} (f : ℕ → List A) (xs : List A) → xs ≡ xs ++ every_below 0 f
unfolding every_below
every_below_start f xs = sym (append-nil xs)

-- what is added is what one more number has
pub every_more : {A : Type 0} (f : ℕ → List A) (i : ℕ) (first was now : List A) → was ≡ first ++ every_below i f → now ≡ was ++ f i → now ≡ first ++ every_below (i + 1) f
unfolding every_below
every_more f i first was now before added = rw (add-one, ← append_assoc, ← before) added

-- of one answer alone
pub those_once : {A : Type 0} (o : Option A) → those_below 1 (λ i. o) ≡ option_to_list o
unfolding every_below
those_once o = refl

-- the same for the elements of a list
pub every_in_more : {X A : Type 0} (xs : List X) (f : X → ℕ → List A) (i : ℕ) (x : X) (first was now : List A) → slice_get xs i ≡ Some x → was ≡ first ++ every_below i (λ j. option_map_or (λ y. f y j) (slice_get xs j) []) → now ≡ was ++ f x i → now ≡ first ++ every_below (i + 1) (λ j. option_map_or (λ y. f y j) (slice_get xs j) [])
every_in_more xs f i x first was now here before added =
    every_more (λ j. option_map_or (λ y. f y j) (slice_get xs j) []) i first was now before (rw here added)

-- ── the first of all
pub orElse_assoc : {A : Type 0} (o p q : Option A) → (o orElse p) orElse q ≡ (o orElse (p orElse q))
orElse_assoc None p q = refl
orElse_assoc (Some x) p q = refl

pub first_of_both : {A : Type 0} (xs ys : List A) → slice_get (xs ++ ys) 0 ≡ (slice_get xs 0 orElse slice_get ys 0)
first_of_both [] ys = refl
first_of_both (x ∷ xs) ys = refl

pub first_of_one : {A : Type 0} (o : Option A) → slice_get (option_to_list o) 0 ≡ o
first_of_one None = refl
first_of_one (Some x) = refl

-- the first of each gives the first of all
pub first_every : {A : Type 0} (n : ℕ) (g : ℕ → List A) (f : ℕ → Option A) → ((i : ℕ) → slice_get (g i) 0 ≡ f i) → slice_get (every_below n g) 0 ≡ first_below n f
unfolding every_below first_below
first_every zero g f same = refl
first_every (suc n) g f same = rw (first_of_both (every_below n g) (g n), first_every n g f same, same n) refl

pub first_those : {A : Type 0} (n : ℕ) (f : ℕ → Option A) → slice_get (those_below n f) 0 ≡ first_below n f
first_those n f = first_every n (λ i. option_to_list (f i)) f (λ i. first_of_one (f i))

pub first_every_in : {X A : Type 0} (xs : List X) (g : X → ℕ → List A) (f : X → ℕ → Option A) → ((x : X) (i : ℕ) → slice_get (g x i) 0 ≡ f x i) → slice_get (every_in xs g) 0 ≡ first_in xs f
first_every_in {X} {A} xs g f same = first_every (length xs) (λ i. option_map_or (λ x. g x i) (slice_get xs i) []) (at_item xs f) (λ i. go i (slice_get xs i))
  where
    go : (i : ℕ) (o : Option X) → slice_get (option_map_or (λ x. g x i) o []) 0 ≡ option_map_or (λ x. f x i) o None
    go i None = refl
    go i (Some x) = same x i
