-- A count that goes on over numbers that are all marked, or all free.
use Rattle.std.proofs.Common.{◌≡◌, ℕ, ◌+◌, ◌-◌, ◌<◌, ◌≤◌, Bool, true, false, not, arith, ap}
use Rattle.dds_base.specs.Counts.{count_between}
use Rattle.dds_base.proofs.CountLaws.{count_join, count_all, count_none, count_empty}

module _ (q : ℕ → Bool) where
  -- the unmarked numbers
  abbrev p : ℕ → Bool
  p n = not (q n)

  -- nothing is counted yet
  pub counted_none : (a : ℕ) → 0 ≡ count_between (λ n. not (q n)) a a
  counted_none a = omega (arith, count_empty p a)

  -- on to a number before which all are marked
  pub counted_marked : (a b c count : ℕ) → a ≤ b → b ≤ c → ((k : ℕ) → b ≤ k → k < c → q k ≡ true) → count ≡ count_between (λ n. not (q n)) a b → count ≡ count_between (λ n. not (q n)) a c
  counted_marked a b c count ab bc marked e =
      omega (arith, count_join p a b c ab bc, count_none p b c (λ k low high. ap not (marked k low high)))

  -- on to a number before which none is marked
  pub counted_free : (a b c count : ℕ) → a ≤ b → b ≤ c → ((k : ℕ) → b ≤ k → k < c → q k ≡ false) → count ≡ count_between (λ n. not (q n)) a b → count + (c - b) ≡ count_between (λ n. not (q n)) a c
  counted_free a b c count ab bc free e =
      omega (arith, count_join p a b c ab bc, count_all p b c (λ k low high. ap not (free k low high)))
