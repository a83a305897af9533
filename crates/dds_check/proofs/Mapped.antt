-- Elements of lists.
use Rattle.std.proofs.Common.{ℕ, inl, inr, ◌≡◌, ◌<◌, ◌||◌, Bool, true, false, zero, suc, List, [], ◌∷◌, All, length, map, slice_get, Some, refl, ap, subst, arith}
use Rattle.std.specs.List.{list_any}
use Rattle.std.proofs.lemmas.Option.{slice_get_within, get_or_from_slice_get, none-some}
use Rattle.dds_base.specs.Sums.{In}

-- an element of a list with All
pub All_at : {X : Type 0} (P : X → Type 0) (xs : List X) (i : ℕ) (x : X) → All P xs → slice_get xs i ≡ Some x → P x
All_at P xs i x h e = subst P (get_or_from_slice_get xs i x x e) (h i x (slice_get_within xs i x e))

-- an element of a mapped list comes from one of the list
pub mapped_from : {A B : Type 0} (f : A → B) (y : B) (xs : List A) → In y (map f xs) → (i : ℕ) × (x : A) × (slice_get xs i ≡ Some x) × (f x ≡ y)
mapped_from f y [] h = absurd h
mapped_from f y (x ∷ xs) h = elim h [ inl e ↦ (0, x, refl, e) | inr later ↦ (let r = mapped_from f y xs later in (suc r.0, r.1, r.2, r.3)) ]

pub mapped_to : {A B : Type 0} (f : A → B) (xs : List A) (i : ℕ) (x : A) → slice_get xs i ≡ Some x → In (f x) (map f xs)
mapped_to f [] i x h = absurd (none-some x h)
mapped_to f (y ∷ ys) zero x h = inl (ap f (same y x h))
  where
    same : {A : Type 0} (y x : A) → Some y ≡ Some x → y ≡ x
    same y x h = cc
mapped_to f (y ∷ ys) (suc i) x h = inr (mapped_to f ys i x h)

pub is_there : {X : Type 0} (xs : List X) (i : ℕ) → i < length xs → (x : X) × (slice_get xs i ≡ Some x)
is_there [] i l = absurd (omega arith)
is_there (x ∷ xs) zero l = (x, refl)
is_there (x ∷ xs) (suc i) l = is_there xs i (omega arith)

-- one of the elements passes
pub list_any_one : {X : Type 0} (f : X → Bool) (xs : List X) → list_any f xs ≡ true → (i : ℕ) × (x : X) × (slice_get xs i ≡ Some x) × (f x ≡ true)
list_any_one f [] h = absurd (grind arith)
list_any_one {X} f (x ∷ xs) h = go (list_any_one f xs) (f x) refl h
  where
    go : (list_any f xs ≡ true → (i : ℕ) × (y : X) × (slice_get xs i ≡ Some y) × (f y ≡ true)) → (b : Bool) → f x ≡ b → (b || list_any f xs) ≡ true → (i : ℕ) × (y : X) × (slice_get (x ∷ xs) i ≡ Some y) × (f y ≡ true)
    go rest true e h = (0, x, refl, e)
    go rest false e h = (let r = rest h in (suc r.0, r.1, r.2, r.3))
