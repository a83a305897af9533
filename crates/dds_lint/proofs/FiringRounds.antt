-- As many rounds as there are firings to count find how often each rule can fire.
use Rattle.std.proofs.Common.{ℕ, zero, suc, Bool, true, false, ◌≡◌, ◌∙◌, ◌+◌, ◌*◌, ◌<◌, ◌≤◌, ◌⊎◌, inl, inr, not, List, ◌++◌, refl, sym, ap, ap₂, subst, arith, if◌then◌else◌}
use Rattle.std.specs.Prelude.{◌==◌}
use Rattle.std.specs.Option.{option_to_list}
use Rattle.std.proofs.lemmas.Bool.{cases_lt}
use Rattle.dds_base.specs.Sums.{bit, count_below, total}
use Rattle.dds_lists.specs.Lists.{Lists}
use Rattle.dds_match.specs.Network.{Network}
use Rattle.dds_match.specs.Plan.{network_of}
use Rattle.dds_weights.specs.Lists as lists
use Rattle.dds_lint.specs.Every.{every_below, those_below}
use Rattle.dds_lint.specs.Firings.{AreClosed, AreLimits, IsLeast, can_fire, firings, has_takes, limits_after, limits_of, opens}
use Rattle.dds_lint.specs.Notes.{absent_notes, all_notes, certificate_notes, finite, lossy_take, pace_unused, pair_notes, reader_notes, stops, stuck_rule, writer_notes}
use Rattle.dds_lint.specs.declared.notes.Note.{Note}
use Rattle.dds_lint.proofs.FiringLaws.{fire_less, fire_more, total_le}

-- ── counts
bit_le : (a b : Bool) → (a ≡ true → b ≡ true) → bit a ≤ bit b
bit_le false b more = omega arith
bit_le true b more = rw (more refl) (omega arith)

bit_most : (a : Bool) → bit a ≤ 1
bit_most true = omega arith
bit_most false = omega arith

count_le : (n : ℕ) (p q : ℕ → Bool) → ((i : ℕ) → p i ≡ true → q i ≡ true) → count_below n p ≤ count_below n q
count_le n p q more = total_le n (λ i. bit (p i)) (λ i. bit (q i)) (λ i inside. bit_le (p i) (q i) (more i))

count_most : (n : ℕ) (p : ℕ → Bool) → count_below n p ≤ n
unfolding total
count_most zero p = omega arith
count_most (suc n) p = omega (arith, count_most n p, bit_most (p n))

one_more : (x : Bool) (count n b : ℕ) → count ≤ n → count ≤ b → (x ≡ true → n < b) → count + bit x ≤ b
one_more true count n b most before small = let lt = small refl in omega (arith, most, lt)
one_more false count n b most before small = omega (arith, before)

-- where each that passes is below a number, no more pass
count_within : (n b : ℕ) (p : ℕ → Bool) → ((i : ℕ) → i < n → p i ≡ true → i < b) → count_below n p ≤ b
unfolding total
count_within zero b p small = omega arith
count_within (suc n) b p small =
    one_more (p n) (count_below n p) n b (count_most n p) (count_within n b p (λ i inside. small i (omega (arith, inside)))) (λ at. small n (omega arith) at)

-- where each below a number passes, so many do
count_all : (n m : ℕ) (p : ℕ → Bool) → m ≤ n → ((i : ℕ) → i < m → p i ≡ true) → m ≤ count_below n p
unfolding total
count_all zero m p le all = omega (arith, le)
count_all (suc n) m p le all = elim (cases_lt n m) [
  | inl more ↦
      let at : p n ≡ true = all n more in
      let one : bit (p n) ≡ 1 = ap bit at in
      omega (arith, le, one, count_all n n p (omega arith) (λ i inside. all i (omega (arith, inside, more))))
  | inr less ↦ omega (arith, count_all n m p less all)
]

-- ── rounds
firings_more : (net : Network) (a b : ℕ → ℕ) → ((u : ℕ) → u < net.rules → a u ≤ b u) → (u : ℕ) → firings net a u ≤ firings net b u
firings_more net a b more u = count_le 1001 (λ i. can_fire net a u (i + 1)) (λ i. can_fire net b u (i + 1)) (λ i. fire_more net a b more u (i + 1))

firings_within : (net : Network) (limit : ℕ → ℕ) (u n : ℕ) → n ≤ 1001 → can_fire net limit u n ≡ true → n ≤ firings net limit u
firings_within net limit u n few fires =
    count_all 1001 n (λ i. can_fire net limit u (i + 1)) few (λ i inside. fire_less net limit u (i + 1) n (omega (arith, inside)) fires)

-- limits that are closed are above those of each round
below_closed : (net : Network) (n : ℕ) (other : ℕ → ℕ) → AreClosed net other → (u : ℕ) → u < net.rules → limits_after net n u ≤ other u
unfolding limits_after
below_closed net zero other closed u inside = omega arith
below_closed net (suc n) other closed u inside =
    count_within 1001 (other u) (λ i. can_fire net (limits_after net n) u (i + 1))
    (λ i small fires.
    let at : i + 1 ≤ other u = closed u inside (i + 1) (omega (arith, small)) (fire_more net (limits_after net n) other (below_closed net n other closed) u (i + 1) fires) in
    omega (arith, at))

rises : (net : Network) (n u : ℕ) → u < net.rules → limits_after net n u ≤ limits_after net (suc n) u
unfolding limits_after
rises net zero u inside = omega arith
rises net (suc n) u inside = firings_more net (limits_after net n) (limits_after net (suc n)) (rises net n) u

-- a round that raises none
IsLast : Network → ℕ → Type 0
IsLast net n = (u : ℕ) → u < net.rules → limits_after net (suc n) u ≤ limits_after net n u

last_stays : (net : Network) (n : ℕ) → IsLast net n → IsLast net (suc n)
unfolding limits_after IsLast
last_stays net n last u inside = firings_more net (limits_after net (suc n)) (limits_after net n) last u

-- where a sum of what is no less is no greater, each is the same
no_more : (n : ℕ) (f g : ℕ → ℕ) → ((i : ℕ) → i < n → f i ≤ g i) → total n g ≤ total n f → (i : ℕ) → i < n → g i ≤ f i
unfolding total
no_more zero f g more le i inside = absurd (omega (arith, inside))
no_more (suc n) f g more le i inside =
    let below : (j : ℕ) → j < n → f j ≤ g j = λ j lt. more j (omega (arith, lt)) in
    let rest : total n f ≤ total n g = total_le n f g below in
    let one : f n ≤ g n = more n (omega arith) in
    elim (cases_lt i n) [
      | inl lt ↦ no_more n f g below (omega (arith, rest, one, le)) i lt
      | inr ge ↦
          let same : n ≡ i = omega (arith, ge, inside) in
          subst (λ j. g j ≤ f j) same (omega (arith, rest, one, le))
    ]

-- so many rounds are enough, or they have found as many firings
found : (net : Network) (n : ℕ) → IsLast net n ⊎ (n < total net.rules (limits_after net (suc n)))
unfolding IsLast
found net zero = elim (cases_lt 0 (total net.rules (limits_after net 1))) [
  | inl some ↦ inr some
  | inr none ↦ inl (no_more net.rules (limits_after net 0) (limits_after net 1) (rises net 0) (omega (arith, none)))
]
found net (suc n) = elim (found net n) [
  | inl last ↦ inl (last_stays net n last)
  | inr many ↦ elim (cases_lt (total net.rules (limits_after net (suc n))) (total net.rules (limits_after net (suc (suc n))))) [
    | inl more ↦ inr (omega (arith, many, more))
    | inr none ↦ inl (no_more net.rules (limits_after net (suc n)) (limits_after net (suc (suc n))) (rises net (suc n)) none)
  ]
]

total_most : (n c : ℕ) (f : ℕ → ℕ) → ((i : ℕ) → f i ≤ c) → total n f ≤ n * c
unfolding total
total_most zero c f most = omega arith
total_most (suc n) c f most = omega (arith, total_most n c f most, most n)

few_found : (net : Network) (n : ℕ) → total net.rules (limits_after net (suc n)) ≤ net.rules * 1001
unfolding limits_after
few_found net n = total_most net.rules 1001 (limits_after net (suc n)) (λ u. count_most 1001 (λ i. can_fire net (limits_after net n) u (i + 1)))

all_found : (net : Network) → IsLast net (net.rules * 1001)
all_found net = elim (found net (net.rules * 1001)) [
  | inl last ↦ last
  | inr many ↦ absurd (omega (arith, many, few_found net (net.rules * 1001)))
]

closed_where_last : (net : Network) (n : ℕ) → IsLast net n → AreClosed net (limits_after net n)
unfolding limits_after IsLast
closed_where_last net n last u inside m few fires =
    let at : firings net (limits_after net n) u ≤ limits_after net n u = last u inside in
    omega (arith, at, firings_within net (limits_after net n) u m few fires)

pub limits_of_are : (net : Network) → AreLimits net (limits_of net)
limits_of_are net = record {
  each = λ u inside other closed. below_closed net (net.rules * 1001) other closed u inside;
  closed = closed_where_last net (net.rules * 1001) (all_found net);
}

-- ── any two that are limits are the same
same_limits : (net : Network) (a b : ℕ → ℕ) → AreLimits net a → AreLimits net b → (u : ℕ) → u < net.rules → a u ≡ b u
same_limits net a b la lb u inside = omega (arith, la.each u inside b lb.closed, lb.each u inside a la.closed)

same_those : {A : Type 0} (n : ℕ) (f g : ℕ → List A) → ((i : ℕ) → i < n → f i ≡ g i) → every_below n f ≡ every_below n g
unfolding every_below
same_those zero f g same = refl
same_those (suc n) f g same = ap₂ (λ xs ys. xs ++ ys) (same_those n f g (λ i inside. same i (omega (arith, inside)))) (same n (omega arith))

module _ (net : Network) (a b : ℕ → ℕ) (same : (u : ℕ) → u < net.rules → a u ≡ b u) where
  same_stuck : (u : ℕ) → u < net.rules → stuck_rule net a u ≡ stuck_rule net b u
  same_stuck u inside = ap (λ n. stuck_rule net (λ (v : ℕ). n) u) (same u inside)

  same_stops : (u : ℕ) → u < net.rules → stops net a u ≡ stops net b u
  same_stops u inside = ap (λ n. stops net (λ (v : ℕ). n) u) (same u inside)

-- the notes are the same by any of them
pub notes_of_limits : (d : Lists) (limit : ℕ → ℕ) (cert : lists.Certificate) → AreLimits (network_of d) limit → all_notes d limit cert ≡ all_notes d (limits_of (network_of d)) cert
unfolding all_notes
notes_of_limits d limit cert are =
    let net = network_of d in
    let same = same_limits net limit (limits_of net) are (limits_of_are net) in
    ap₂ (λ (xs ys : List Note). reader_notes d cert ++ writer_notes d ++ (absent_notes net ++ xs ++ ys ++ those_below net.rules (finite net) ++ those_below net.rules (lossy_take net) ++ those_below net.rules (pace_unused d)) ++ certificate_notes net cert ++ pair_notes d)
    (same_those net.rules (λ u. option_to_list (stuck_rule net limit u)) (λ u. option_to_list (stuck_rule net (limits_of net) u)) (λ u inside. ap option_to_list (same_stuck net limit (limits_of net) same u inside)))
    (same_those net.rules (λ u. option_to_list (stops net limit u)) (λ u. option_to_list (stops net (limits_of net) u)) (λ u inside. ap option_to_list (same_stops net limit (limits_of net) same u inside)))
