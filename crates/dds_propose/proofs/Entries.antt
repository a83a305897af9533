-- Lists that grow by what the next number gives.
use Rattle.std.proofs.Common.{ℕ, ◌≡◌, ◌+◌, ◌<◌, ◌≤◌, arith, List, [], ◌∷◌, ◌++◌, Bool, true, false, if◌then◌else◌, flat_map, sym, ap, ◌∙◌, append-nil, append_assoc}
use Rattle.std.specs.List.{range_with_len}
use Rattle.std.proofs.lemmas.Grind.{flat_map-append}
use Rattle.std.proofs.lemmas.Bool.{eq-eqb, ne_eqb}
use Rattle.dds_base.proofs.Ranges.{range_push}
use Rattle.dds_weights.specs.declared.certificate.Weight.{Weight}
use Rattle.dds_propose.specs.Listing.{entry}

-- what the numbers below n + 1 give
pub more_below : {X : Type 0} (f : ℕ → List X) (n : ℕ) → flat_map f (range_with_len 0 (n + 1)) ≡ flat_map f (range_with_len 0 n) ++ f n
more_below f n = ap (flat_map f) (range_push n) ∙ (flat_map-append f (range_with_len 0 n) (n ∷ []) ∙ ap (λ xs. flat_map f (range_with_len 0 n) ++ xs) (append-nil (f n)))

-- what the next number gives is added
pub and_next : {X : Type 0} (f : ℕ → List X) (n : ℕ) (old list new : List X) → list ≡ old ++ flat_map f (range_with_len 0 n) → new ≡ list ++ f n
    → new ≡ old ++ flat_map f (range_with_len 0 (n + 1))
and_next f n old list new before after =
    after ∙ (ap (λ xs. xs ++ f n) before ∙ (append_assoc old (flat_map f (range_with_len 0 n)) (f n) ∙ ap (λ xs. old ++ xs) (sym (more_below f n))))

-- nothing is added for a weight of 0
pub nothing_more : {E : Type 0} (e : E) (k n m : ℕ) (list : List (Weight E)) → n ≡ m → n ≤ 0 → list ≡ list ++ entry e k m
nothing_more e k n m list same none = rw (eq-eqb m 0 (omega arith)) (sym (append-nil list))

-- another weight has an entry
pub one_more : {E : Type 0} (e : E) (k j n m : ℕ) (list new : List (Weight E)) → j ≡ k → n ≡ m → 0 < n → new ≡ list ++ record { endpoint = e; key = j; weight = n } ∷ []
    → new ≡ list ++ entry e k m
one_more e k j n m list new at same some added = rw (ne_eqb m 0 (λ e. omega arith)) (rw (← at, ← same) added)

-- what passes is added
pub one_taken : {X : Type 0} (passes : Bool) (x y : X) (list new : List X) → passes ≡ true → y ≡ x → new ≡ list ++ y ∷ [] → new ≡ list ++ (if passes then x ∷ [] else [])
one_taken passes x y list new passing same added = rw passing (rw (← same) added)

-- what doesn't pass is not
pub none_taken : {X : Type 0} (passes : Bool) (x : X) (list : List X) → passes ≡ false → list ≡ list ++ (if passes then x ∷ [] else [])
none_taken passes x list failing = rw failing (sym (append-nil list))
