-- The bound of a key of a reader, from the place where its number stands first.
use Rattle.std.proofs.Common.{ℕ, ◌≡◌, ◌+◌, ◌*◌, ◌<◌, ◌==◌, cond, List, ◌∷◌, get_or, position, Some, None, refl, sym, ap}
use Rattle.dds_weights.specs.declared.certificate.Bound.{Bound}
use Rattle.dds_weights.specs.Places.{bound_number}
use Rattle.dds_weights.proofs.PlaceLaws.{same_place_number, value_found, value_missing}
use Rattle.dds_check.specs.Tables.{bound_of}

module _ (r k : ℕ) (hr : r < 256) (hk : k < 64) where
  bound_step : (x : Bound) (xs : List Bound) → bound_of (x ∷ xs) r k ≡ cond (bound_number x == r * 64 + k) (Some x.bound) (bound_of xs r k)
  bound_step x xs = ap (λ b. cond b (Some x.bound) (bound_of xs r k)) (sym (same_place_number x.reader x.key r k hr hk))

  pub bound_found : (xs : List Bound) (i : ℕ) (x : Bound) → position (λ y. bound_number y == r * 64 + k) xs ≡ Some i → x ≡ get_or xs i x → bound_of xs r k ≡ Some x.bound
  bound_found = value_found (λ y. bound_number y == r * 64 + k) (λ y. Some y.bound) None (λ ys. bound_of ys r k) refl bound_step

  pub bound_missing : (xs : List Bound) → position (λ y. bound_number y == r * 64 + k) xs ≡ None → bound_of xs r k ≡ None
  bound_missing = value_missing (λ y. bound_number y == r * 64 + k) (λ y. Some y.bound) None (λ ys. bound_of ys r k) refl bound_step
