-- The needs of a rule that a row carries by permits, need by need.
use Rattle.std.proofs.Common.{ℕ, ◌≡◌, ◌+◌, ◌*◌, ◌<◌, Bool, true, false, if◌then◌else◌, List, ◌∷◌, length, get_or, drop, slice_get, Some, refl, sym, ap, ◌∙◌, arith}
use Rattle.std.proofs.lemmas.List.{drop_more}
use Rattle.dds_base.specs.declared.portion.Portion.{Portion}
use Rattle.dds_match.specs.Network.{Network, weighed}
use Rattle.dds_propose.specs.Relaxation.{by_permits, needs_of}

rest_at : (es : List (Portion ℕ)) (i : ℕ) (e : Portion ℕ) → i < length es → e ≡ get_or es i e → drop i es ≡ e ∷ drop (i + 1) es
rest_at es i e within here = drop_more es i e within ∙ ap (λ x. x ∷ drop (i + 1) es) (sym here)

-- the next is the first of them
pub need_found : (net : Network) (es : List (Portion ℕ)) (i : ℕ) (e : Portion ℕ) → i < length es → e ≡ get_or es i e → by_permits net e.endpoint e.key ≡ true
    → slice_get (needs_of net (drop i es)) 0 ≡ Some e
need_found net es i e within here passes = ap (λ xs. slice_get (needs_of net xs) 0) (rest_at es i e within here) ∙ go (by_permits net e.endpoint e.key) (needs_of net (drop (i + 1) es)) passes
  where
    go : (b : Bool) (rest : List (Portion ℕ)) → b ≡ true → slice_get (if b then e ∷ rest else rest) 0 ≡ Some e
    go b rest h = rw h refl

-- the next is none of them
pub need_passed : (net : Network) (es : List (Portion ℕ)) (i : ℕ) (e : Portion ℕ) → i < length es → e ≡ get_or es i e → by_permits net e.endpoint e.key ≡ false
    → slice_get (needs_of net (drop i es)) 0 ≡ slice_get (needs_of net (drop (i + 1) es)) 0
need_passed net es i e within here fails = ap (λ xs. slice_get (needs_of net xs) 0) (rest_at es i e within here) ∙ go (by_permits net e.endpoint e.key) (needs_of net (drop (i + 1) es)) fails
  where
    go : (b : Bool) (rest : List (Portion ℕ)) → b ≡ false → slice_get (if b then e ∷ rest else rest) 0 ≡ slice_get rest 0
    go b rest h = rw h refl

-- what the next weighs, and the rest
pub needs_more : (net : Network) (f : ℕ → ℕ → ℕ) (es : List (Portion ℕ)) (i : ℕ) (e : Portion ℕ) → i < length es → e ≡ get_or es i e
    → weighed (needs_of net (drop i es)) f ≡ (if by_permits net e.endpoint e.key then e.count * f e.endpoint e.key else 0) + weighed (needs_of net (drop (i + 1) es)) f
needs_more net f es i e within here = ap (λ xs. weighed (needs_of net xs) f) (rest_at es i e within here) ∙ go (by_permits net e.endpoint e.key) (needs_of net (drop (i + 1) es))
  where
    go : (b : Bool) (rest : List (Portion ℕ)) → weighed (if b then e ∷ rest else rest) f ≡ (if b then e.count * f e.endpoint e.key else 0) + weighed rest f
    go true rest = refl
    go false rest = omega arith
