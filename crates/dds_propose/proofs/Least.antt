-- The least weight of the keys that count, key by key.
use Rattle.std.proofs.Common.{ℕ, ◌≡◌, ◌+◌, Bool, true, false, Some, None, min, refl, add-one}
use Rattle.std.specs.Option.{option_map_or}
use Rattle.dds_propose.specs.Bounds.{least_counted}

pub least_none : (counted : ℕ → Bool) (weight : ℕ → ℕ) → least_counted counted weight 0 ≡ None
unfolding least_counted
least_none counted weight = refl

pub least_same : (counted : ℕ → Bool) (weight : ℕ → ℕ) (n : ℕ) → counted n ≡ false → least_counted counted weight (n + 1) ≡ least_counted counted weight n
unfolding least_counted
least_same counted weight n failing = rw (add-one, failing) refl

pub least_more : (counted : ℕ → Bool) (weight : ℕ → ℕ) (n : ℕ) → counted n ≡ true →
    least_counted counted weight (n + 1) ≡ Some (option_map_or (λ other. min other (weight n)) (least_counted counted weight n) (weight n))
unfolding least_counted
least_more counted weight n passing = rw (add-one, passing) refl
