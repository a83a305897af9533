-- Sums of numbers of which each may be missing.
use Rattle.std.proofs.Common.{◌≡◌, ℕ, ◌+◌, Bool, true, false, cond, ◌||◌, List, [], ◌∷◌, ◌++◌, Option, Some, None, refl, sym, ◌∙◌, ap, arith}
use Rattle.dds_match.specs.Sums.{add_both, sum_of}

add_none : (o : Option ℕ) → add_both (Some 0) o ≡ o
add_none None = refl
add_none (Some m) = ap Some (omega arith)

add_assoc : (o p q : Option ℕ) → add_both o (add_both p q) ≡ add_both (add_both o p) q
add_assoc None p q = refl
add_assoc (Some n) None q = refl
add_assoc (Some n) (Some m) None = refl
add_assoc (Some n) (Some m) (Some l) = ap Some (omega arith)

pub sum_append : {A : Type 0} (f : A → Option ℕ) (xs ys : List A) → sum_of f (xs ++ ys) ≡ add_both (sum_of f xs) (sum_of f ys)
sum_append {A} f [] ys = sym (add_none (sum_of f ys))
sum_append {A} f (x ∷ xs) ys = ap (add_both (f x)) (sum_append f xs ys) ∙ add_assoc (f x) (sum_of f xs) (sum_of f ys)

-- a sum that some part lacks, and one more part
pub add_lacking : (l a : Bool) (h m : ℕ) → add_both (cond l None (Some h)) (cond a None (Some m)) ≡ cond (a || l) None (Some (h + m))
add_lacking true true h m = refl
add_lacking true false h m = refl
add_lacking false true h m = refl
add_lacking false false h m = refl
