-- What a base is, without its search.
use Rattle.std.proofs.Common.{◌≡◌, ◌⊎◌, inl, inr, ℕ, suc, ◌+◌, ◌≤◌, ◌<◌, Bool, true, false, not, refl, arith}
use Rattle.std.proofs.lemmas.Bool.{not_from_true, not_from_false, not-false, le-leb, lt-ltb, le-ltb}
use Rattle.dds_base.specs.Sums.{least}
use Rattle.dds_base.proofs.SumLaws.{least_least, least_upto, least_le, least_from, least_below, least_same}
use Rattle.dds_base.specs.Sets.{last_number}
use Rattle.dds_qos.specs.Reading.{base_of, is_below_base, is_repeat, new_by_heartbeat, heartbeat_count}
use Rattle.dds_base.specs.Counts.{count_between}
use Rattle.dds_base.proofs.CountLaws.{count_same}

-- the number below which all are marked and which isn't, unless it is the end
pub base_is : (marks : ℕ → Bool) (b : ℕ) → 1 ≤ b → b ≤ 1 + last_number → ((n : ℕ) → 1 ≤ n → n < b → marks n ≡ true) → (b ≡ 1 + last_number) ⊎ (marks b ≡ false) → base_of marks ≡ b
base_is marks b low high below at =
    let up : b ≤ base_of marks = least_least (λ n. not (marks n)) last_number 1 b high (λ i f l. not_from_true (marks i) (below i f l)) in
    let end : base_of marks ≤ 1 + last_number = least_upto (λ n. not (marks n)) last_number 1 in
    elim at [ inl e ↦ omega arith | inr f ↦ (let down : base_of marks ≤ b = least_le (λ n. not (marks n)) last_number 1 b low (not_from_false (marks b) f) in omega arith) ]

pub base_low : (marks : ℕ → Bool) → 1 ≤ base_of marks
base_low marks = least_from (λ n. not (marks n)) last_number 1

pub base_high : (marks : ℕ → Bool) → base_of marks ≤ 1 + last_number
base_high marks = least_upto (λ n. not (marks n)) last_number 1

-- each number below it is marked
pub below_base : (marks : ℕ → Bool) (n : ℕ) → 1 ≤ n → n < base_of marks → marks n ≡ true
below_base marks n low below = not-false (marks n) (least_below (λ m. not (marks m)) last_number 1 n low below)

-- where marks have no hole, a number is marked or below the base alike
pub repeat_is_marked : (watcher : Bool) (marks : ℕ → Bool) (n : ℕ) → 1 ≤ n → (watcher ≡ true → (m : ℕ) → marks n ≡ true → 1 ≤ m → m ≤ n → marks m ≡ true) → is_repeat watcher marks n ≡ marks n
repeat_is_marked false marks n low whole = refl
repeat_is_marked true marks n low whole = go (marks n) refl
  where
    go : (b : Bool) → marks n ≡ b → is_below_base marks n ≡ b
    go true e = lt-ltb n (least (λ m. not (marks m)) n 1) (let up : suc n ≤ least (λ m. not (marks m)) n 1 = least_least (λ m. not (marks m)) n 1 (suc n) (omega arith) (λ m f l. not_from_true (marks m) (whole refl m e f (omega arith))) in omega arith)
    go false e = le-ltb n (least (λ m. not (marks m)) n 1) (least_le (λ m. not (marks m)) n 1 n low (not_from_false (marks n) e))

-- below first all numbers pass the test of first
pub heartbeat_count_is : (marks : ℕ → Bool) (first : ℕ) → heartbeat_count marks first ≡ count_between (λ n. not (marks n)) 1 first
heartbeat_count_is marks first = count_same (new_by_heartbeat marks first) (λ n. not (marks n)) 1 first (λ n low below. rw (le-leb 1 n low, lt-ltb n first below) refl)

-- it goes by what is marked alone
pub base_same : (m m' : ℕ → Bool) → ((n : ℕ) → m n ≡ m' n) → base_of m ≡ base_of m'
base_same m m' same = least_same (λ n. not (m n)) (λ n. not (m' n)) last_number 1 (λ n. rw (same n) refl)
