-- Which files were opened by two readings, one after the other.
use Rattle.std.proofs.Common.{◌∷◌, [], ◌∙◌, List, ℕ, Option, Some, None, append_assoc, arith, subst}
use Rattle.dds_answers.specs.Opened.{Opens, OpensAll}

-- the file of the first, and then that of the second
pub both_open : (old between new : Option (List (List ℕ))) (x y : List ℕ) → OpensAll old between (x ∷ []) → OpensAll between new (y ∷ []) → Opens old new (x ∷ y ∷ [])
both_open None between new x y first second = tt
both_open (Some before) between new x y first second =
    (2, omega arith, subst (λ (known : Option (List (List ℕ))). OpensAll known new (y ∷ [])) first second ∙ rw append_assoc)
