-- The lines of early writes and late samples, with names that are equal.
use Rattle.std.proofs.Common.{◌≡◌, ℕ, List, ◌++◌, codes, refl}

pub early_line : (line by w v k l f g r q : List ℕ) → w ≡ v → k ≡ l → f ≡ g → r ≡ q
    → codes "line " ++ (line ++ (codes ": " ++ (w ++ (codes " " ++ (k ++ (codes " too soon for " ++ (f ++ (codes " of " ++ (r ++ (codes " by " ++ (by ++ codes " ns\n")))))))))))
    ≡ codes "line " ++ (line ++ (codes ": " ++ (v ++ (codes " " ++ (l ++ (codes " too soon for " ++ (g ++ (codes " of " ++ (q ++ (codes " by " ++ (by ++ codes " ns\n")))))))))))
early_line line by w v k l f g r q a b c d = rw (a, b, c, d) refl

pub late_line : (line written by k l f g r q : List ℕ) → k ≡ l → f ≡ g → r ≡ q
    → codes "line " ++ (line ++ (codes ": " ++ (k ++ (codes " of line " ++ (written ++ (codes " too late for " ++ (f ++ (codes " of " ++ (r ++ (codes " by " ++ (by ++ codes " ns\n")))))))))))
    ≡ codes "line " ++ (line ++ (codes ": " ++ (l ++ (codes " of line " ++ (written ++ (codes " too late for " ++ (g ++ (codes " of " ++ (q ++ (codes " by " ++ (by ++ codes " ns\n")))))))))))
late_line line written by k l f g r q a b c = rw (a, b, c) refl
