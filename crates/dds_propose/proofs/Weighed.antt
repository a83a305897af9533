-- What a rule's lists weigh.
use Rattle.std.proofs.Common.{ℕ, ◌≡◌, ◌+◌, ◌*◌, List, [], ◌∷◌, refl, ap, arith}
use Rattle.dds_base.specs.declared.portion.Portion.{Portion}
use Rattle.dds_match.specs.Network.{weighed}
use Rattle.dds_check.specs.Tables.{weighed_by}

-- numbers that are numbers already change nothing
pub weighed_as : (ps : List (Portion ℕ)) (f : ℕ → ℕ → ℕ) → weighed_by (λ n. n) ps f ≡ weighed ps f
weighed_as [] f = refl
weighed_as (p ∷ ps) f = ap (λ n. p.count * f p.endpoint p.key + n) (weighed_as ps f)

-- equal weights weigh the same
pub weighed_same : (ps : List (Portion ℕ)) (f g : ℕ → ℕ → ℕ) → ((e k : ℕ) → f e k ≡ g e k) → weighed ps f ≡ weighed ps g
weighed_same [] f g same = refl
weighed_same (p ∷ ps) f g same =
    let rest = weighed_same ps f g same in
    let here = ap (λ n. p.count * n) (same p.endpoint p.key) in
    omega (arith, here)
