-- Columns in a row.
use Rattle.std.proofs.Common.{◌≡◌, ℕ, zero, suc, ◌+◌, [], ◌∷◌, ◌++◌, map, ap, ◌∙◌, arith}
use Rattle.std.specs.List.{range_with_len}
use Rattle.dds_simplex.specs.declared.dictionary.Variable.TheVariants.{Column}
use Rattle.dds_simplex.specs.Dictionary.{fresh_columns}

from : (a n : ℕ) → map Column (range_with_len a (suc n)) ≡ map Column (range_with_len a n) ++ Column (a + n) ∷ []
from a zero = ap (λ k. Column k ∷ []) (omega arith)
from a (suc n) =
    let e : a + 1 + n ≡ a + suc n = omega arith in
    let more : map Column (range_with_len (a + 1) (suc n)) ≡ map Column (range_with_len (a + 1) n) ++ Column (a + suc n) ∷ [] =
    from (a + 1) n ∙ ap (λ k. map Column (range_with_len (a + 1) n) ++ Column k ∷ []) e in
    ap (λ ks. Column a ∷ ks) more

-- one column more
pub columns_push : (n : ℕ) → fresh_columns (n + 1) ≡ fresh_columns n ++ Column n ∷ []
columns_push n = let e : n + 1 ≡ suc n = omega arith in let z : 0 + n ≡ n = omega arith in rw e (from 0 n ∙ ap (λ k. fresh_columns n ++ Column k ∷ []) z)
