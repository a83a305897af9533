-- How counts change, one change after the other.
use Rattle.std.proofs.Common.{◌≡◌, ℕ, ◌+◌, refl, ◌∙◌, arith}
use Rattle.dds_rules.specs.Counts.{CountTable, IsMoreBy}

pub no_more : (t : CountTable) (f : ℕ → ℕ → ℕ) → ((i k : ℕ) → f i k ≡ 0) → IsMoreBy f t t
no_more t f none = record { endpoints = refl; counts = λ i k. (let z = none i k in omega arith) }

pub and_more : (a b c : CountTable) (f g h : ℕ → ℕ → ℕ) → ((i k : ℕ) → f i k + g i k ≡ h i k) → IsMoreBy f a b → IsMoreBy g b c → IsMoreBy h a c
and_more a b c f g h both first second = record {
  endpoints = second.endpoints ∙ first.endpoints;
  counts = λ i k. (let x = first.counts i k in let y = second.counts i k in let z = both i k in omega arith);
}

-- the same change in other words
pub more_as : (a b : CountTable) (f g : ℕ → ℕ → ℕ) → ((i k : ℕ) → f i k ≡ g i k) → IsMoreBy f a b → IsMoreBy g a b
more_as a b f g same more = record { endpoints = more.endpoints; counts = λ i k. (let x = more.counts i k in let z = same i k in omega arith) }
