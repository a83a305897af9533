-- Tests and sums of the numbers below a bound as loops make them, and what limits of firings come to.
use Rattle.std.proofs.Common.{ℕ, zero, suc, Bool, true, false, ◌≡◌, ◌≢◌, ◌∙◌, ◌+◌, ◌-◌, ◌*◌, ◌^◌, ◌<◌, ◌≤◌, ◌&&◌, ◌||◌, ◌⊎◌, not, List, [], ◌∷◌, length, refl, sym, ap, ap₂, subst, inl, inr, get_or, replicate, arith, add-one, if◌then◌else◌, min, take, slice_index}
use Rattle.std.specs.Prelude.{nat_lt, nat_le, ◌==◌}
use Rattle.std.proofs.Math.ListN.{set}
use Rattle.std.proofs.Math.Nat.{min-eq_left, min-eq_right, min-le_right, mul-le-mul, mul-le-mul_left, mul-le-mul_right, mul-sub}
use Rattle.std.proofs.lemmas.Bool.{cases_eq, cases_lt, eq-eqb, false≢true, le-leb, leb-true, lt-ltb, ltb-true, ne_eqb}
use Rattle.std.proofs.lemmas.List.{get_or-set_same, get_or-set_other}
use Rattle.std.proofs.lemmas.List.Sums.{sum_by-set, sum_by_more}
use Rattle.std.specs.List.{list_all, sum_by}
use Rattle.dds_base.specs.Sums.{any_below, bit, total}
use Rattle.dds_base.specs.declared.portion.Portion.{Portion}
use Rattle.dds_match.specs.Network.{IsNetwork, Network}
use Rattle.dds_lint.specs.Firings.{AreClosed, IsLeast, IsWithin, ShowsSent, can_fire, can_fire_by, capped, comes, comes_by, covers, covers_by, has_takes, rounds, sends, sent, share}

pub any_below_start : (p : ℕ → Bool) → any_below 0 p ≡ false
unfolding any_below
any_below_start p = refl

pub any_below_more : (p : ℕ → Bool) (i : ℕ) → any_below (i + 1) p ≡ (p i || any_below i p)
unfolding any_below
any_below_more p i = rw add-one

-- ── what holds of more, where more holds
pub two_and : (a b x y : Bool) → (a ≡ true → b ≡ true) → (x ≡ true → y ≡ true) → (a && x) ≡ true → (b && y) ≡ true
two_and true b x y f g h = rw (f refl) (g h)
two_and false b x y f g h = cc

pub all_more : {X : Type 0} (p q : X → Bool) → ((x : X) → p x ≡ true → q x ≡ true) → (xs : List X) → list_all p xs ≡ true → list_all q xs ≡ true
all_more p q more [] h = refl
all_more p q more (x ∷ xs) h = two_and (p x) (q x) (list_all p xs) (list_all q xs) (more x) (all_more p q more xs) h

-- ── sums
pub total_le : (n : ℕ) (f g : ℕ → ℕ) → ((i : ℕ) → i < n → f i ≤ g i) → total n f ≤ total n g
unfolding total
total_le zero f g more = omega arith
total_le (suc n) f g more = omega (arith, total_le n f g (λ i inside. more i (omega (arith, inside))), more n (omega arith))

pub total_same : (n : ℕ) (f g : ℕ → ℕ) → ((i : ℕ) → i < n → f i ≡ g i) → total n f ≡ total n g
unfolding total
total_same zero f g same = refl
total_same (suc n) f g same = ap₂ (λ x y. x + y) (total_same n f g (λ i inside. same i (omega (arith, inside)))) (same n (omega arith))

-- the sum, changed at one place
pub total_changed : (n u : ℕ) (f g : ℕ → ℕ) → u < n → ((i : ℕ) → i ≢ u → g i ≡ f i) → total n g + f u ≡ total n f + g u
unfolding total
total_changed zero u f g inside others = absurd (omega (arith, inside))
total_changed (suc n) u f g inside others = elim (cases_eq n u) [
  | inl same ↦
      let rest : total n g ≡ total n f = total_same n g f (λ i below. others i (λ e. absurd (omega (arith, e, same, below)))) in
      subst (λ j. (total n g + g n) + f j ≡ (total n f + f n) + g j) same (rw rest (omega arith))
  | inr apart ↦
      let rest : total n g + f u ≡ total n f + g u = total_changed n u f g (omega (arith, inside, apart)) others in
      let here : g n ≡ f n = others n apart in
      omega (arith, rest, here)
]

-- ── more firings
lt_more : (c a b : ℕ) → a ≤ b → nat_lt c a ≡ true → nat_lt c b ≡ true
lt_more c a b le h = let less = ltb-true c a h in lt-ltb c b (omega (arith, less, le))

if_more : (x y : Bool) (a b c : ℕ) → a ≤ b → (x ≡ true → y ≡ true) → a + (if x then c else 0) ≤ b + (if y then c else 0)
if_more true y a b c le more = rw (more refl) (omega (arith, le))
if_more false true a b c le more = omega (arith, le)
if_more false false a b c le more = omega (arith, le)

or_more : (f a b : Bool) → (a ≡ true → b ≡ true) → (f || a) ≡ true → (f || b) ≡ true
or_more true a b more h = refl
or_more false a b more h = more h

pub rounds_more : (net : Network) (u a b : ℕ) → a ≤ b → rounds net u a ≤ rounds net u b
rounds_more net u a b le =
    if_more ((net.rule u).free || nat_lt 1000 a) ((net.rule u).free || nat_lt 1000 b) ((net.rule u).start + a) ((net.rule u).start + b) 2147483648 (omega (arith, le))
    (or_more (net.rule u).free (nat_lt 1000 a) (nat_lt 1000 b) (lt_more 1000 a b le))

sent_more : (net : Network) (a b : ℕ → ℕ) → ((u : ℕ) → u < net.rules → a u ≤ b u) → (r k : ℕ) → sent net a r k ≤ sent net b r k
sent_more net a b more r k =
    total_le net.rules (λ u. sends net r k u * rounds net u (a u)) (λ u. sends net r k u * rounds net u (b u))
    (λ u inside. mul-le-mul_left (sends net r k u) (rounds_more net u (a u) (b u) (more u inside)))

few_counted : (x : ℕ) → x ≤ 4294967295 → capped x ≡ x
few_counted x le = min-eq_left le

many_counted : (x : ℕ) → 4294967295 ≤ x → capped x ≡ 4294967295
many_counted x le = min-eq_right le

capped_le : (x y : ℕ) → x ≤ y → capped x ≤ capped y
capped_le x y le = elim (cases_lt y 4294967295) [
  | inl below ↦
      let one = few_counted x (omega (arith, le, below)) in
      let two = few_counted y (omega (arith, below)) in
      omega (arith, one, two, le)
  | inr past ↦
      let one : capped x ≤ 4294967295 = min-le_right x 4294967295 in
      let two = many_counted y past in
      omega (arith, one, two)
]

if_le : (h : Bool) (x y : ℕ) → x ≤ y → (if h then x else 0) ≤ (if h then y else 0)
if_le true x y le = le
if_le false x y le = omega arith

comes_more : (net : Network) (a b : ℕ → ℕ) → ((u : ℕ) → u < net.rules → a u ≤ b u) → (r k : ℕ) → comes net a r k ≤ comes net b r k
comes_more net a b more r k = if_le (net.hears r k) (capped (sent net a r k)) (capped (sent net b r k)) (capped_le (sent net a r k) (sent net b r k) (sent_more net a b more r k))

le_more : (n x y : ℕ) → x ≤ y → nat_le n x ≡ true → nat_le n y ≡ true
le_more n x y le h = let below = leb-true n x h in le-leb n y (omega (arith, below, le))

le_less : (m n x : ℕ) → m ≤ n → nat_le n x ≡ true → nat_le m x ≡ true
le_less m n x le h = let below = leb-true n x h in le-leb m x (omega (arith, below, le))

-- a rule can fire as often by greater limits
pub fire_more : (net : Network) (a b : ℕ → ℕ) → ((u : ℕ) → u < net.rules → a u ≤ b u) → (u n : ℕ) → can_fire net a u n ≡ true → can_fire net b u n ≡ true
fire_more net a b more u n =
    two_and (has_takes net u) (has_takes net u) (list_all (covers net a n) (net.rule u).takes) (list_all (covers net b n) (net.rule u).takes) (λ t. t)
    (all_more (covers net a n) (covers net b n) (λ e. le_more (n * e.count) (comes net a e.endpoint e.key) (comes net b e.endpoint e.key) (comes_more net a b more e.endpoint e.key)) (net.rule u).takes)

-- and less often by the same
pub fire_less : (net : Network) (limit : ℕ → ℕ) (u m n : ℕ) → m ≤ n → can_fire net limit u n ≡ true → can_fire net limit u m ≡ true
fire_less net limit u m n le =
    two_and (has_takes net u) (has_takes net u) (list_all (covers net limit n) (net.rule u).takes) (list_all (covers net limit m) (net.rule u).takes) (λ t. t)
    (all_more (covers net limit n) (covers net limit m) (λ e. le_less (m * e.count) (n * e.count) (comes net limit e.endpoint e.key) (mul-le-mul_right e.count le)) (net.rule u).takes)

-- ── by a table
same_all : {X : Type 0} (p q : X → Bool) → ((x : X) → p x ≡ q x) → (xs : List X) → list_all p xs ≡ list_all q xs
same_all p q same [] = refl
same_all p q same (x ∷ xs) = ap₂ (λ a b. a && b) (same x) (same_all p q same xs)

comes_as : (net : Network) (limit : ℕ → ℕ) (cells : List ℕ) → IsNetwork net → net.keys ≤ 64 → ShowsSent net limit cells → (r k : ℕ) → comes_by net cells r k ≡ comes net limit r k
comes_as net limit cells known few shows r k = go (net.hears r k) refl
  where
    go : (b : Bool) → net.hears r k ≡ b → comes_by net cells r k ≡ comes net limit r k
    go true heard =
        let row = known.heard_reader r k heard in
        let column = known.heard_key r k heard in
        let same = shows.shown r k row (omega (arith, column, few)) in
        rw heard same
    go false deaf = rw deaf refl

-- a rule can fire as often by a table as by the limits that it stands for
pub fires_as : (net : Network) (limit : ℕ → ℕ) (cells : List ℕ) → IsNetwork net → net.keys ≤ 64 → ShowsSent net limit cells → (u n : ℕ) → can_fire_by net cells u n ≡ can_fire net limit u n
fires_as net limit cells known few shows u n =
    ap (λ b. has_takes net u && b)
    (same_all (covers_by net cells n) (covers net limit n) (λ e. ap (nat_le (n * e.count)) (comes_as net limit cells known few shows e.endpoint e.key)) (net.rule u).takes)

-- and less often by the same
fire_less_by : (net : Network) (cells : List ℕ) (u m n : ℕ) → m ≤ n → can_fire_by net cells u n ≡ true → can_fire_by net cells u m ≡ true
fire_less_by net cells u m n le =
    two_and (has_takes net u) (has_takes net u) (list_all (covers_by net cells n) (net.rule u).takes) (list_all (covers_by net cells m) (net.rule u).takes) (λ t. t)
    (all_more (covers_by net cells n) (covers_by net cells m) (λ e. le_less (m * e.count) (n * e.count) (comes_by net cells e.endpoint e.key) (mul-le-mul_right e.count le)) (net.rule u).takes)

-- where a rule can't fire once more, it's within its limit
pub within_by : (net : Network) (cells : List ℕ) (u n m : ℕ) → can_fire_by net cells u (m + 1) ≡ false → can_fire_by net cells u n ≡ true → n ≤ m
within_by net cells u n m never fires = elim (cases_lt m n) [
  | inl less ↦
      let at : can_fire_by net cells u (m + 1) ≡ true = fire_less_by net cells u (m + 1) n (omega (arith, less)) fires in
      absurd (false≢true (sym never ∙ at))
  | inr le ↦ le
]

-- ── one limit more
pub least_more : (net : Network) (limits : List ℕ) (u n : ℕ) → u < net.rules → n ≤ 1001 → ((v : ℕ) → v < net.rules → IsLeast net v (slice_index limits v)) → can_fire net (slice_index limits) u n ≡ true
    → (v : ℕ) → v < net.rules → IsLeast net v (slice_index (set limits u n) v)
least_more net limits u n inside few known fires v below other closed =
    let more : (w : ℕ) → w < net.rules → slice_index limits w ≤ other w = λ w lt. known w lt other closed in
    elim (cases_eq v u) [
      | inl same ↦ elim (cases_lt u (length limits)) [
        | inl there ↦
            let is : slice_index (set limits u n) v ≡ n = subst (λ j. slice_index (set limits u n) j ≡ n) (sym same) (get_or-set_same limits u n 0 there) in
            let le : n ≤ other v = subst (λ j. n ≤ other j) (sym same) (closed u inside n few (fire_more net (slice_index limits) other more u n fires)) in
            omega (arith, is, le)
        | inr past ↦
            let is : slice_index (set limits u n) v ≡ slice_index limits v = unset limits u v n past in
            omega (arith, is, more v below)
      ]
      | inr apart ↦
          let is : slice_index (set limits u n) v ≡ slice_index limits v = get_or-set_other limits u v n 0 apart in
          omega (arith, is, more v below)
    ]
  where
    unset : (xs : List ℕ) (u v n : ℕ) → length xs ≤ u → slice_index (set xs u n) v ≡ slice_index xs v
    unset [] u v n past = refl
    unset (x ∷ xs) zero v n past = absurd (omega (arith, past))
    unset (x ∷ xs) (suc u) zero n past = refl
    unset (x ∷ xs) (suc u) (suc v) n past = unset xs u v n (omega (arith, past))

-- where each limit is 0, nothing has to be shown
pub zero_at : (n j : ℕ) → slice_index (replicate n 0) j ≡ 0
zero_at zero j = refl
zero_at (suc n) zero = refl
zero_at (suc n) (suc j) = zero_at n j

pub least_zero : (net : Network) (n v : ℕ) → IsLeast net v (slice_index (replicate n 0) v)
least_zero net n v limit closed = let at = zero_at n v in omega (arith, at)

-- what can still be fired becomes less
pub fewer_left : (limits : List ℕ) (u n : ℕ) → u < length limits → n ≤ 1001 → slice_index limits u < n → sum_by (λ x. 1001 - x) (set limits u n) < sum_by (λ x. 1001 - x) limits
fewer_left limits u n inside few more =
    let e = sum_by-set (λ (x : ℕ). 1001 - x) limits u n 0 inside in
    omega (arith, e, few, more)

-- ── what is sent, as far as it's counted
-- two numbers that count as the same are the same, or both are too large
abbrev Alike : ℕ → ℕ → Type 0
Alike x y = (x ≡ y) ⊎ ((4294967295 ≤ x) × (4294967295 ≤ y))

alike : (x y : ℕ) → capped x ≡ capped y → Alike x y
alike x y same = elim (cases_lt x 4294967295) [
  | inl below ↦
      let one = few_counted x (omega (arith, below)) in
      elim (cases_lt y 4294967295) [
        | inl there ↦ let two = few_counted y (omega (arith, there)) in inl (sym one ∙ (same ∙ two))
        | inr past ↦ let two = many_counted y past in let e : x ≡ 4294967295 = sym one ∙ (same ∙ two) in absurd (omega (arith, e, below))
      ]
  | inr past ↦
      let one = many_counted x past in
      elim (cases_lt y 4294967295) [
        | inl there ↦
            let two = few_counted y (omega (arith, there)) in
            let e : y ≡ 4294967295 = sym two ∙ (sym same ∙ one) in
            absurd (omega (arith, e, there))
        | inr more ↦ inr (past, more)
      ]
]

pub capped_more : (x y z : ℕ) → capped x ≡ capped y → capped (x + z) ≡ capped (y + z)
capped_more x y z same = go (alike x y same)
  where
    go : Alike x y → capped (x + z) ≡ capped (y + z)
    go (inl e) = ap (λ w. capped (w + z)) e
    go (inr (a, b)) = many_counted (x + z) (omega (arith, a)) ∙ sym (many_counted (y + z) (omega (arith, b)))

pub sent_same : (net : Network) (a b : ℕ → ℕ) → ((u : ℕ) → u < net.rules → a u ≡ b u) → (r k : ℕ) → sent net a r k ≡ sent net b r k
sent_same net a b same r k =
    total_same net.rules (λ u. sends net r k u * rounds net u (a u)) (λ u. sends net r k u * rounds net u (b u)) (λ u inside. ap (λ n. sends net r k u * rounds net u n) (same u inside))

mul_apart : (s a b : ℕ) → a ≤ b → s * b ≡ s * a + s * (b - a)
mul_apart s a b le = let e = mul-sub s b a in let more = mul-le-mul_left s le in omega (arith, e, more)

-- where one rule fires more often
pub sent_raised : (net : Network) (old new : ℕ → ℕ) (u : ℕ) → u < net.rules → old u ≤ new u → ((v : ℕ) → v ≢ u → new v ≡ old v) → (r k : ℕ)
    → sent net new r k ≡ sent net old r k + sends net r k u * (rounds net u (new u) - rounds net u (old u))
sent_raised net old new u inside le others r k =
    let f : ℕ → ℕ = λ v. sends net r k v * rounds net v (old v) in
    let g : ℕ → ℕ = λ v. sends net r k v * rounds net v (new v) in
    let e : total net.rules g + f u ≡ total net.rules f + g u = total_changed net.rules u f g inside (λ v apart. ap (λ n. sends net r k v * rounds net v n) (others v apart)) in
    let m : g u ≡ f u + sends net r k u * (rounds net u (new u) - rounds net u (old u)) = mul_apart (sends net r k u) (rounds net u (old u)) (rounds net u (new u)) (rounds_more net u (old u) (new u) le) in
    omega (arith, e, m)

-- one write more at a reader
pub added_more : (new mid old s e t : ℕ) → capped new ≡ capped (mid + e * t) → capped mid ≡ capped (old + s * t) → capped new ≡ capped (old + (s + e) * t)
added_more new mid old s e t here before =
    let sum : (old + s * t) + e * t ≡ old + (s + e) * t = omega arith in
    here ∙ (capped_more mid (old + s * t) (e * t) before ∙ ap capped sum)

-- where a rule fires more often than before, or for the first time
pub raised_at : (net : Network) (old new : ℕ → ℕ) (u r k x y : ℕ) → u < net.rules → old u ≤ new u → ((v : ℕ) → v ≢ u → new v ≡ old v)
    → capped x ≡ capped (y + sends net r k u * (rounds net u (new u) - rounds net u (old u))) → capped y ≡ capped (sent net old r k) → capped x ≡ capped (sent net new r k)
raised_at net old new u r k x y inside le others here before =
    here ∙ (capped_more y (sent net old r k) (sends net r k u * (rounds net u (new u) - rounds net u (old u))) before ∙ ap capped (sym (sent_raised net old new u inside le others r k)))

pub opened_more : (n x y : ℕ) (f : ℕ → ℕ) → capped x ≡ capped (y + f n) → capped y ≡ capped (total n f) → capped x ≡ capped (total (n + 1) f)
unfolding total
opened_more n x y f here before =
    let next : total n f + f n ≡ total (n + 1) f = rw add-one refl in
    here ∙ (capped_more y (total n f) (f n) before ∙ ap capped next)

-- ── one write at the cells of a reader
capped_twice : (x : ℕ) → capped (capped x) ≡ capped x
capped_twice x = few_counted (capped x) (min-le_right x 4294967295)

pub write_added : (net : Network) (cells : List ℕ) (r : ℕ) (e : Portion ℕ) (t v : ℕ) → r < 256 → length cells ≡ 16384 → e.key < 64 → net.matched e.endpoint r ≡ true
    → v ≡ capped (slice_index cells (r * 64 + e.key) + e.count * t) → (k : ℕ) → k < 64
    → capped (slice_index (set cells (r * 64 + e.key) v) (r * 64 + k)) ≡ capped (slice_index cells (r * 64 + k) + share net r k e * t)
write_added net cells r e t v few len low matched is k below = elim (cases_eq e.key k) [
  | inl same ↦
      let whole : share net r e.key e ≡ e.count = ap₂ (λ a b. if a && b then e.count else 0) (eq-eqb e.key e.key refl) matched in
      subst (λ j. capped (slice_index (set cells (r * 64 + e.key) v) (r * 64 + j)) ≡ capped (slice_index cells (r * 64 + j) + share net r j e * t)) same
      (ap capped (get_or-set_same cells (r * 64 + e.key) v 0 (omega (arith, few, low, len)) ∙ is)
      ∙ (capped_twice (slice_index cells (r * 64 + e.key) + e.count * t) ∙ ap (λ n. capped (slice_index cells (r * 64 + e.key) + n * t)) (sym whole)))
  | inr apart ↦
      let none : share net r k e ≡ 0 = ap (λ a. if a && net.matched e.endpoint r then e.count else 0) (ne_eqb e.key k apart) in
      let kept : slice_index (set cells (r * 64 + e.key) v) (r * 64 + k) ≡ slice_index cells (r * 64 + k) = get_or-set_other cells (r * 64 + e.key) (r * 64 + k) v 0 (λ s. apart (omega (arith, s))) in
      let zero_more : slice_index cells (r * 64 + k) ≡ slice_index cells (r * 64 + k) + share net r k e * t = rw none (omega arith) in
      ap capped (kept ∙ zero_more)
]

pub write_elsewhere : (cells : List ℕ) (r q key k v : ℕ) → key < 64 → k < 64 → q ≢ r → slice_index (set cells (r * 64 + key) v) (q * 64 + k) ≡ slice_index cells (q * 64 + k)
write_elsewhere cells r q key k v low below apart = get_or-set_other cells (r * 64 + key) (q * 64 + k) v 0 (λ s. apart (omega (arith, s, low, below)))

pub write_high : (net : Network) (x r : ℕ) (e : Portion ℕ) (t k : ℕ) → k < 64 → 64 ≤ e.key → capped x ≡ capped (x + share net r k e * t)
write_high net x r e t k below high =
    let none : share net r k e ≡ 0 = ap (λ a. if a && net.matched e.endpoint r then e.count else 0) (ne_eqb e.key k (λ s. absurd (omega (arith, s, high, below)))) in
    let same : x ≡ x + share net r k e * t = rw none (omega arith) in
    ap capped same

unmatched : (a b : Bool) (n : ℕ) → b ≡ false → (if a && b then n else 0) ≡ 0
unmatched true b n h = rw h refl
unmatched false b n h = refl

pub write_unmatched : (net : Network) (x r : ℕ) (e : Portion ℕ) (t k : ℕ) → net.matched e.endpoint r ≡ false → capped x ≡ capped (x + share net r k e * t)
write_unmatched net x r e t k apart =
    let none : share net r k e ≡ 0 = unmatched (e.key == k) (net.matched e.endpoint r) e.count apart in
    let same : x ≡ x + share net r k e * t = rw none (omega arith) in
    ap capped same

pub ruleset nowhere = (write_high, write_unmatched)

-- one reader more
pub readers_more : (f : ℕ → ℕ → ℕ) (cells mid old : List ℕ) (n q t : ℕ) → q ≡ n
    → ((k : ℕ) → k < 64 → capped (slice_index cells (q * 64 + k)) ≡ capped (slice_index mid (q * 64 + k) + f q k * t))
    → ((r k : ℕ) → r ≢ q → k < 64 → slice_index cells (r * 64 + k) ≡ slice_index mid (r * 64 + k))
    → ((r k : ℕ) → r < n → k < 64 → capped (slice_index mid (r * 64 + k)) ≡ capped (slice_index old (r * 64 + k) + f r k * t))
    → ((r k : ℕ) → n ≤ r → k < 64 → slice_index mid (r * 64 + k) ≡ slice_index old (r * 64 + k))
    → (r k : ℕ) → r < n + 1 → k < 64 → capped (slice_index cells (r * 64 + k)) ≡ capped (slice_index old (r * 64 + k) + f r k * t)
readers_more f cells mid old n q t here added others before rest r k below low = elim (cases_eq q r) [
  | inl same ↦
      subst (λ p. capped (slice_index cells (p * 64 + k)) ≡ capped (slice_index old (p * 64 + k) + f p k * t)) same
      (added k low ∙ ap (λ x. capped (x + f q k * t)) (rest q k (omega (arith, here)) low))
  | inr apart ↦
      ap capped (others r k (λ e. apart (sym e)) low) ∙ before r k (omega (arith, below, here, apart)) low
]

pub readers_rest : (cells mid old : List ℕ) (n q : ℕ) → q ≡ n → ((r k : ℕ) → r ≢ q → k < 64 → slice_index cells (r * 64 + k) ≡ slice_index mid (r * 64 + k))
    → ((r k : ℕ) → n ≤ r → k < 64 → slice_index mid (r * 64 + k) ≡ slice_index old (r * 64 + k))
    → (r k : ℕ) → n + 1 ≤ r → k < 64 → slice_index cells (r * 64 + k) ≡ slice_index old (r * 64 + k)
readers_rest cells mid old n q here others rest r k above low = others r k (λ e. absurd (omega (arith, e, above, here))) low ∙ rest r k (omega (arith, above)) low

-- ── what can come by a table
pub heard_few : (x : ℕ) → x < 4294967296 → x ≡ capped x
heard_few x small = sym (few_counted x (omega (arith, small)))

pub deaf_past : (net : Network) (r k : ℕ) → IsNetwork net → net.readers ≤ r → net.hears r k ≡ false
deaf_past net r k known past = go (net.hears r k) refl
  where
    go : (b : Bool) → net.hears r k ≡ b → net.hears r k ≡ false
    go true heard = let there = known.heard_reader r k heard in absurd (omega (arith, there, past))
    go false deaf = deaf

pub nothing_heard : (net : Network) (cells : List ℕ) (r k : ℕ) → net.hears r k ≡ false → 0 ≡ comes_by net cells r k
nothing_heard net cells r k deaf = rw deaf refl

pub nothing_past : (net : Network) (cells : List ℕ) (r k : ℕ) → IsNetwork net → net.readers ≤ r → 0 ≡ comes_by net cells r k
nothing_past net cells r k known past = nothing_heard net cells r k (deaf_past net r k known past)

-- so many times a count
pub product_small : (a b : ℕ) → a < 2 ^ 16 → b < 2 ^ 32 → a * b < 2 ^ 60
product_small a b small few =
    let one : a ≤ 65535 = omega (arith, small) in
    let two : b ≤ 4294967295 = omega (arith, few) in
    let le : a * b ≤ 65535 * 4294967295 = mul-le-mul one two in
    omega (arith, le)

-- one write more of a rule at a reader
pub writes_more : (f : Portion ℕ → ℕ) (xs : List (Portion ℕ)) (i : ℕ) (e : Portion ℕ) (new mid old t : ℕ) → i < length xs → e ≡ get_or xs i e
    → capped new ≡ capped (mid + f e * t) → capped mid ≡ capped (old + sum_by f (take i xs) * t) → capped new ≡ capped (old + sum_by f (take (i + 1) xs) * t)
writes_more f xs i e new mid old t inside at here before =
    let next : sum_by f (take (i + 1) xs) ≡ sum_by f (take i xs) + f e = sum_by_more f xs i e inside ∙ ap (λ y. sum_by f (take i xs) + f y) (sym at) in
    added_more new mid old (sum_by f (take i xs)) (f e) t here before ∙ ap (λ s. capped (old + s * t)) (sym next)

pub total_zero : (f : ℕ → ℕ) → total 0 f ≡ 0
unfolding total
total_zero f = refl
