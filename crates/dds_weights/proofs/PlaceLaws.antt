-- The value of the first entry of a list whose key of an endpoint is the one asked for, from the place where its number stands first.
use Rattle.std.proofs.Common.{ℕ, zero, suc, ◌≡◌, ◌+◌, ◌*◌, ◌<◌, ◌==◌, ◌&&◌, Bool, true, false, cond, List, [], ◌∷◌, length, get_or, position, Some, None, refl, sym, ap, ◌∙◌, arith}
use Rattle.std.proofs.lemmas.Bool.Decides.{nat_tests}
use Rattle.std.proofs.lemmas.List.Quantifiers.{position-Some}
use Rattle.dds_base.proofs.NumberedLaws.{fails_nowhere}
use Rattle.dds_weights.specs.declared.certificate.Weight.{Weight}
use Rattle.dds_weights.specs.Places.{place_number, weight_number}
use Rattle.dds_weights.specs.Weighing.{weight_by}

-- what g answers of a list is the value of its first entry that passes
module _ {X V : Type 0} (test : X → Bool) (value : X → V) (none : V) (g : List X → V) (empty : g [] ≡ none) (step : (x : X) (xs : List X) → g (x ∷ xs) ≡ cond (test x) (value x) (g xs)) where
  pub value_at : (xs : List X) (i : ℕ) (x : X) → i < length xs → x ≡ get_or xs i x → test x ≡ true → ((k : ℕ) → k < i → test (get_or xs k x) ≡ false) → g xs ≡ value x
  value_at [] i x within at passes before = absurd (omega arith)
  value_at (y ∷ ys) zero x within at passes before = step y ys ∙ rw (← at, passes) refl
  value_at (y ∷ ys) (suc i) x within at passes before =
      let fails : test y ≡ false = before 0 (omega arith) in
      step y ys ∙ rw fails (value_at ys i x (omega arith) at passes (λ k l. before (suc k) (omega arith)))

  pub value_nowhere : (xs : List X) → ((k : ℕ) (d : X) → k < length xs → test (get_or xs k d) ≡ false) → g xs ≡ none
  value_nowhere [] fails = empty
  value_nowhere (y ∷ ys) fails =
      let here : test y ≡ false = fails 0 y (omega arith) in
      step y ys ∙ rw here (value_nowhere ys (λ k d l. fails (suc k) d (omega arith)))

  pub value_found : (xs : List X) (i : ℕ) (x : X) → position test xs ≡ Some i → x ≡ get_or xs i x → g xs ≡ value x
  value_found xs i x found at =
      let p = position-Some test xs i x found in
      value_at xs i x p.0 at (ap test at ∙ p.1) p.2

  pub value_missing : (xs : List X) → position test xs ≡ None → g xs ≡ none
  value_missing xs missing = value_nowhere xs (fails_nowhere test xs missing)

-- the number of a place says which key of which endpoint it is
pub same_place_number : (a b e k : ℕ) → e < 256 → k < 64 → (place_number a b == e * 64 + k) ≡ ((a == e) && (b == k))
same_place_number a b e k he hk = grind (arith, nat_tests)

module _ {E : Type 0} (number : E → ℕ) (e k : ℕ) (he : e < 256) (hk : k < 64) where
  weight_step : (x : Weight E) (xs : List (Weight E)) → weight_by number (x ∷ xs) e k ≡ cond (weight_number number x == e * 64 + k) x.weight (weight_by number xs e k)
  weight_step x xs = ap (λ b. cond b x.weight (weight_by number xs e k)) (sym (same_place_number (number x.endpoint) x.key e k he hk))

  pub weight_found : (xs : List (Weight E)) (i : ℕ) (x : Weight E) → position (λ y. weight_number number y == e * 64 + k) xs ≡ Some i → x ≡ get_or xs i x → weight_by number xs e k ≡ x.weight
  weight_found = value_found (λ y. weight_number number y == e * 64 + k) (λ y. y.weight) 0 (λ ys. weight_by number ys e k) refl weight_step

  pub weight_missing : (xs : List (Weight E)) → position (λ y. weight_number number y == e * 64 + k) xs ≡ None → weight_by number xs e k ≡ 0
  weight_missing = value_missing (λ y. weight_number number y == e * 64 + k) (λ y. y.weight) 0 (λ ys. weight_by number ys e k) refl weight_step
