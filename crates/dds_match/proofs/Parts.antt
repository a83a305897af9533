-- Which right parts of a name a pattern stands for, as bits of a word.
use Rattle.std.proofs.Common.{◌≡◌, ◌≢◌, ℕ, ◌+◌, ◌-◌, ◌*◌, ◌/◌, ◌%◌, ◌^◌, ◌<◌, ◌≤◌, ◌==◌, ◌||◌, ◌&&◌, ◌⊎◌, not, Bool, true, false, List, [], ◌∷◌, ◌++◌, length, get_or, drop, refl, sym, ap, subst, ◌∙◌, inl, inr, arith, max, min, zero, suc, add-one, nat_lt, append_assoc, set, replicate, get_or-set_same, get_or-set_other}
use Rattle.std.specs.Int.{bit_at}
use Rattle.std.specs.List.{push}
use Rattle.std.proofs.lemmas.List.{drop_more, drop_all, get_or-replicate, length-replicate, append-nil}
use Rattle.dds_match.specs.Partitions.{name_matches}
use Rattle.dds_match.specs.RightParts.{AreBeginnings, ArePartsWith, last}
use Rattle.dds_base.proofs.Bools.{and_false}
use Rattle.dds_match.proofs.Patterns.{star_nil, star_cons, byte_nil, empty_nil, nil_cons}
use Rattle.std.specs.Prelude.{bit_or, bit_and}
use Rattle.std.proofs.lemmas.Nat.{shr_split, mod-pow-add, mod_below, pow_pos}
use Rattle.std.proofs.Math.Nat.{add-mod, add-mod_left, pow-succ', mod-eq_of_lt}
use Rattle.std.specs.Int.{w128}
use Rattle.std.proofs.lemmas.Nat.Bits.{bit_at_set_same, bit_at_set_other, bit_at_ones, shr_and_one, bit_at_cat_low, bit_at_cat_high, bit_at_and, bit_at-lt, bit_at_lowest, bit_at-zero, bit_at_above}
use Rattle.std.proofs.lemmas.Bool.{cases_eq, cases_lt, eq-eqb, ne_eqb, or_left, or_right, lt-ltb, le-ltb}

-- ── bits
-- a word has the low bits of the number that it is cut from
pub bit_of_cut : (n w k : ℕ) → k < w → bit_at (n % 2 ^ w) k ≡ bit_at n k
bit_of_cut n w k within = sym (bit_at_cat_low (n / 2 ^ w) w (n % 2 ^ w) k within) ∙ ap (λ x. bit_at x k) (shr_split n w)

pub bit_above : (n w k : ℕ) → k + 1 < w → bit_at (n * 2 ^ 1 % 2 ^ w) (k + 1) ≡ bit_at n k
bit_above n w k within = bit_of_cut (n * 2 ^ 1) w (k + 1) within ∙ ap (λ x. bit_at x (k + 1)) (grind arith) ∙ bit_at_cat_high n 1 0 (k + 1) (grind arith) (omega arith) ∙ ap (bit_at n) (omega arith)

pub bit_below : (n w : ℕ) → 0 < w → bit_at (n * 2 ^ 1 % 2 ^ w) 0 ≡ 0
bit_below n w within = bit_of_cut (n * 2 ^ 1) w 0 within ∙ ap (λ x. bit_at x 0) (grind arith) ∙ bit_at_cat_low n 1 0 0 (omega arith) ∙ bit_at-zero 0

-- the low bits of a number, one more
pub low_bits : (n k : ℕ) → n % 2 ^ (k + 1) ≡ bit_at n k * 2 ^ k + n % 2 ^ k
low_bits n k = ap (λ j. n % 2 ^ j) (omega arith) ∙ mod-pow-add n 1 k

-- what is below twice a number, and nothing but for that number
nothing_or_once : (t m : ℕ) → t < 2 * m → t % m ≡ 0 → (t ≡ 0) ⊎ (t ≡ m)
nothing_or_once t m fits none = elim (cases_lt t m) [
  | inl less ↦ inl (sym (mod-eq_of_lt less) ∙ none)
  | inr past ↦
      let rest : t ≡ m + (t - m) = omega (arith, past) in
      let small : (t - m) % m ≡ 0 = sym (add-mod_left m (t - m)) ∙ sym (ap (λ x. x % m) rest) ∙ none in
      inr (omega (arith, past, sym (mod-eq_of_lt (omega (arith, fits, past))) ∙ small))
]

halves : (p b c x y s n : ℕ) → b < 2 → c < 2 → x < p → y < p → s ≡ b * p + x → n ≡ c * p + y → (n + s) % (2 * p) ≡ 0 → max b c ≡ min 1 s
halves p b c x y s n lb lc lx ly es en none = elim (cases_eq b 0) [
  | inl zb ↦ elim (cases_eq c 0) [
    | inl zc ↦
        let se : s ≡ x = es ∙ ap (λ j. j * p + x) zb ∙ omega arith in
        let ne : n ≡ y = en ∙ ap (λ j. j * p + y) zc ∙ omega arith in
        elim (nothing_or_once (n + s) (2 * p) (omega (arith, se, ne, lx, ly)) none) [
          | inl nothing ↦ omega (arith, zb, zc, nothing)
          | inr once ↦ absurd (omega (arith, once, se, ne, lx, ly))
        ]
    | inr oc ↦
        let c1 : c ≡ 1 = omega (arith, lc, oc) in
        let se : s ≡ x = es ∙ ap (λ j. j * p + x) zb ∙ omega arith in
        let ne : n ≡ p + y = en ∙ ap (λ j. j * p + y) c1 ∙ omega arith in
        elim (nothing_or_once (n + s) (2 * p) (omega (arith, se, ne, lx, ly)) none) [
          | inl nothing ↦ absurd (omega (arith, nothing, ne, ly))
          | inr once ↦ omega (arith, once, se, ne, ly, zb, c1)
        ]
  ]
  | inr ob ↦ let b1 : b ≡ 1 = omega (arith, lb, ob) in let se : s ≡ p + x = es ∙ ap (λ j. j * p + x) b1 ∙ omega arith in omega (arith, b1, lc, se, lx)
]

-- two words that add up to nothing, but for a power of 2: a bit of one or the other is set where one has a bit up to there
pub bit_of_either : (s n w k : ℕ) → (n + s) % 2 ^ w ≡ 0 → k < w → max (bit_at s k) (bit_at n k) ≡ min 1 (s % 2 ^ (k + 1))
bit_of_either s n w k none within =
    let power : 2 ^ (k + 1) ≡ 2 * 2 ^ k = ap (λ j. 2 ^ j) (add-one k) ∙ pow-succ' 2 k in
    let some : 0 < 2 ^ k = pow_pos k in
    let cut : (n + s) % 2 ^ w ≡ (n + s) / 2 ^ (k + 1) % 2 ^ (w - (k + 1)) * 2 ^ (k + 1) + (n + s) % 2 ^ (k + 1) = ap (λ j. (n + s) % 2 ^ j) (omega (arith, within)) ∙ mod-pow-add (n + s) (w - (k + 1)) (k + 1) in
    let low : (n % 2 ^ (k + 1) + s % 2 ^ (k + 1)) % 2 ^ (k + 1) ≡ 0 = sym (add-mod n s (2 ^ (k + 1))) ∙ omega (arith, cut, none) in
    halves (2 ^ k) (bit_at s k) (bit_at n k) (s % 2 ^ k) (n % 2 ^ k) (s % 2 ^ (k + 1)) (n % 2 ^ (k + 1)) (bit_at-lt s k) (bit_at-lt n k) (mod_below s (2 ^ k) some) (mod_below n (2 ^ k) some) (low_bits s k) (low_bits n k)
    (subst (λ p. (n % 2 ^ (k + 1) + s % 2 ^ (k + 1)) % p ≡ 0) power low)

pub least_is : (n : ℕ) → (min 1 n == 1) ≡ not (n == 0)
least_is zero = refl
least_is (suc n) = eq-eqb (min 1 (suc n)) 1 (omega arith) ∙ sym (ap not (ne_eqb (suc n) 0 (λ e. omega (arith, e))))

-- ── right parts
last_none : (name : List ℕ) → last name 0 ≡ []
last_none name = drop_all (length name - 0) name (omega arith)

last_more : (name : List ℕ) (k : ℕ) → k < length name → last name (k + 1) ≡ get_or name (length name - (k + 1)) 0 ∷ last name k
last_more name k within = drop_more name (length name - (k + 1)) 0 (omega (arith, within)) ∙ ap (λ i. get_or name (length name - (k + 1)) 0 ∷ drop i name) (omega (arith, within))

pub last_all : (name : List ℕ) → last name (length name) ≡ name
last_all name = let none : length name - length name ≡ 0 = omega arith in ap (λ i. drop i name) none

-- the empty pattern has the empty part alone
pub parts_of_nothing : (name : List ℕ) → length name < 128 → ArePartsWith [] name 1
parts_of_nothing name short k within = elim (cases_eq k 0) [
  | inl none ↦ subst (λ j. (bit_at 1 j == 1) ≡ name_matches [] (last name j)) (sym none) (ap (λ b. b == 1) (bit_at_lowest 1) ∙ empty_nil ∙ sym (ap (name_matches []) (last_none name)))
  | inr some ↦
      let one : k ≡ (k - 1) + 1 = omega (arith, some) in
      subst (λ j. (bit_at 1 j == 1) ≡ name_matches [] (last name j)) (sym one)
      (ap (λ b. b == 1) (bit_at_above 1 1 (k - 1 + 1) (omega arith) (omega arith)) ∙ sym (nil_cons _ _) ∙ sym (ap (name_matches []) (last_more name (k - 1) (omega (arith, within, some)))))
]

-- a bit is nothing or one
set_is : (b : ℕ) → b < 2 → not (b == 0) ≡ (b == 1)
set_is b low = elim (cases_eq b 0) [
  | inl none ↦ subst (λ x. not (x == 0) ≡ (x == 1)) (sym none) refl
  | inr some ↦ let one : b ≡ 1 = omega (arith, low, some) in subst (λ x. not (x == 0) ≡ (x == 1)) (sym one) refl
]

some_of : (b p x : ℕ) → b < 2 → 0 < p → not (b * p + x == 0) ≡ ((b == 1) || not (x == 0))
some_of b p x low some = elim (cases_eq b 0) [
  | inl none ↦
      let alone : 0 * p + x ≡ x = omega arith in
      subst (λ c. not (c * p + x == 0) ≡ ((c == 1) || not (x == 0))) (sym none) (ap (λ n. not (n == 0)) alone)
  | inr set ↦
      let one : b ≡ 1 = omega (arith, low, set) in
      subst (λ c. not (c * p + x == 0) ≡ ((c == 1) || not (x == 0))) (sym one) (ap not (ne_eqb (1 * p + x) 0 (λ e. omega (arith, some, e))))
]

-- some bit of a word up to a place
some_bit : (s k : ℕ) → not (s % 2 ^ (k + 1 + 1) == 0) ≡ ((bit_at s (k + 1) == 1) || not (s % 2 ^ (k + 1) == 0))
some_bit s k = ap (λ n. not (n == 0)) (low_bits s (k + 1)) ∙ some_of (bit_at s (k + 1)) (2 ^ (k + 1)) (s % 2 ^ (k + 1)) (bit_at-lt s (k + 1)) (pow_pos (k + 1))

both_set : (x y : ℕ) → x < 2 → y < 2 → (min x y == 1) ≡ ((y == 1) && (x == 1))
both_set x y lx ly = elim (cases_eq y 0) [
  | inl none ↦ subst (λ v. (min x v == 1) ≡ ((v == 1) && (x == 1))) (sym none) (ne_eqb (min x 0) 1 (λ e. omega (arith, e)))
  | inr set ↦ let one : y ≡ 1 = omega (arith, ly, set) in subst (λ v. (min x v == 1) ≡ ((v == 1) && (x == 1))) (sym one) (ap (λ n. n == 1) (omega (arith, lx)))
]

-- `*` before a pattern
pub star_parts : (parts word : ℕ) (pattern name : List ℕ) → length name < 128
    → ((k : ℕ) → k < 128 → (bit_at word k == 1) ≡ not (parts % 2 ^ (k + 1) == 0)) → ArePartsWith pattern name parts → ArePartsWith (42 ∷ pattern) name word
star_parts parts word pattern name short longer are k within = longer k (omega (arith, within, short)) ∙ up_to k within
  where
    up_to : (j : ℕ) → j ≤ length name → not (parts % 2 ^ (j + 1) == 0) ≡ name_matches (42 ∷ pattern) (last name j)
    up_to zero low =
        ap (λ n. not (n == 0)) (sym (bit_at_lowest parts)) ∙ set_is (bit_at parts 0) (bit_at-lt parts 0) ∙ are 0 low
        ∙ ap (name_matches pattern) (last_none name) ∙ sym (star_nil pattern) ∙ sym (ap (name_matches (42 ∷ pattern)) (last_none name))
    up_to (suc j) low =
        let within : j < length name = omega (arith, low) in
        let more : last name (j + 1) ≡ get_or name (length name - (j + 1)) 0 ∷ last name j = last_more name j within in
        subst (λ n. not (parts % 2 ^ (n + 1) == 0) ≡ name_matches (42 ∷ pattern) (last name n)) (add-one j)
        (some_bit parts j
        ∙ ap (λ b. b || not (parts % 2 ^ (j + 1) == 0)) (are (j + 1) (omega (arith, low)) ∙ ap (name_matches pattern) more)
        ∙ ap (λ b. name_matches pattern (get_or name (length name - (j + 1)) 0 ∷ last name j) || b) (up_to j (omega (arith, low)))
        ∙ sym (star_cons pattern (get_or name (length name - (j + 1)) 0) (last name j)) ∙ sym (ap (name_matches (42 ∷ pattern)) more))

byte_here : (c b : ℕ) (pattern name : List ℕ) → c ≢ 42 → name_matches (c ∷ pattern) (b ∷ name) ≡ ((c == 63 || c == b) && name_matches pattern name)
unfolding name_matches
byte_here c b pattern name other = rw (ne_eqb c 42 other) refl

-- another byte before a pattern
pub byte_parts : (c parts word : ℕ) (pattern name : List ℕ) → length name < 128 → c ≢ 42
    → ((k : ℕ) → k < length name → (bit_at word (k + 1) == 1) ≡ (c == 63 || c == get_or name (length name - (k + 1)) 0))
    → ArePartsWith pattern name parts → ArePartsWith (c ∷ pattern) name (bit_and (parts * 2 ^ 1 % 2 ^ 128) word)
byte_parts c parts word pattern name short other stands are k within = elim (cases_eq k 0) [
  | inl none ↦ subst (λ j. (bit_at (bit_and (parts * 2 ^ 1 % 2 ^ 128) word) j == 1) ≡ name_matches (c ∷ pattern) (last name j)) (sym none)
      (ap (λ b. b == 1) (bit_at_and (parts * 2 ^ 1 % 2 ^ 128) word 0 ∙ ap (λ x. min x (bit_at word 0)) (bit_below parts 128 (omega arith)))
      ∙ ne_eqb (min 0 (bit_at word 0)) 1 (λ e. omega (arith, e)) ∙ sym (byte_nil c pattern other) ∙ sym (ap (name_matches (c ∷ pattern)) (last_none name)))
  | inr some ↦ subst (λ j. (bit_at (bit_and (parts * 2 ^ 1 % 2 ^ 128) word) j == 1) ≡ name_matches (c ∷ pattern) (last name j)) (omega (arith, some)) (at (k - 1) (omega (arith, within, some)))
]
  where
    at : (j : ℕ) → j < length name → (bit_at (bit_and (parts * 2 ^ 1 % 2 ^ 128) word) (j + 1) == 1) ≡ name_matches (c ∷ pattern) (last name (j + 1))
    at j low =
        ap (λ b. b == 1) (bit_at_and (parts * 2 ^ 1 % 2 ^ 128) word (j + 1) ∙ ap (λ x. min x (bit_at word (j + 1))) (bit_above parts 128 j (omega (arith, low, short))))
        ∙ both_set (bit_at parts j) (bit_at word (j + 1)) (bit_at-lt parts j) (bit_at-lt word (j + 1))
        ∙ ap (λ b. b && (bit_at parts j == 1)) (stands j low) ∙ ap (λ b. (c == 63 || c == get_or name (length name - (j + 1)) 0) && b) (are j (omega (arith, low)))
        ∙ sym (byte_here c (get_or name (length name - (j + 1)) 0) pattern (last name j) other) ∙ sym (ap (name_matches (c ∷ pattern)) (last_more name j low))

-- ── the parts that each byte begins
-- as far as the name is read
abbrev pub StandUpTo : List ℕ → List ℕ → ℕ → Type 0
StandUpTo name words at = (c k : ℕ) → c < 256 → k < length name
    → (bit_at (get_or words c 0) (k + 1) == 1) ≡ (c == 63 || (nat_lt (length name - (k + 1)) at && c == get_or name (length name - (k + 1)) 0))

both_true : (x y : Bool) → x ≡ true → y ≡ true → (x && y) ≡ true
both_true x y hx hy = rw (hx, hy) refl

-- where the second is false, the first doesn't matter
neither_true : (x z y : Bool) → y ≡ false → (x && y) ≡ (z && y)
neither_true x z y h = rw h (and_false x ∙ sym (and_false z))

none_read : (name : List ℕ) (c k : ℕ) → c ≢ 63 → (c == 63 || (nat_lt (length name - (k + 1)) 0 && c == get_or name (length name - (k + 1)) 0)) ≡ false
none_read name c k other = rw (ne_eqb c 63 other, le-ltb (length name - (k + 1)) 0 (omega arith)) refl

-- a place that isn't the next one is read before it or not
read_on : (p at : ℕ) → p ≢ at → nat_lt p (at + 1) ≡ nat_lt p at
read_on p at other = elim (cases_lt p at) [
  | inl before ↦ lt-ltb p (at + 1) (omega (arith, before)) ∙ sym (lt-ltb p at before)
  | inr past ↦ le-ltb p (at + 1) (omega (arith, past, other)) ∙ sym (le-ltb p at past)
]

pub stand_more : (name words : List ℕ) (at byte : ℕ) → length words ≡ 256 → length name < 128 → at < length name → byte < 256 → byte ≡ get_or name at 0 → StandUpTo name words at
    → StandUpTo name (set words byte (bit_or (get_or words byte 0) (1 * 2 ^ (length name - at) % 2 ^ 128))) (at + 1)
stand_more name words at byte sized short within low is stand c k inside under = elim (cases_eq (length name - (k + 1)) at) [
  | inl here ↦ elim (cases_eq c byte) [
    | inl same ↦
        let place : k + 1 ≡ length name - at = omega (arith, here, under) in
        ap (λ w. bit_at w (k + 1) == 1) (ap (λ b. get_or new b 0) same ∙ get_or-set_same words byte _ 0 (omega (arith, low, sized)))
        ∙ ap (λ j. bit_at (bit_or (get_or words byte 0) (1 * 2 ^ (length name - at) % 2 ^ 128)) j == 1) place
        ∙ ap (λ b. b == 1) (bit_at_set_same w128 (get_or words byte 0) (length name - at) (omega (arith, short)))
        ∙ sym (or_right (c == 63) true refl)
        ∙ ap (λ b. c == 63 || b) (sym (both_true _ _ (lt-ltb _ _ (omega (arith, here))) (eq-eqb c _ (same ∙ is ∙ ap (λ i. get_or name i 0) (sym here)))))
    | inr other ↦
        ap (λ w. bit_at w (k + 1) == 1) (get_or-set_other words byte c _ 0 other) ∙ stand c k inside under
        ∙ ap (λ b. c == 63 || b) (neither_true (nat_lt (length name - (k + 1)) at) (nat_lt (length name - (k + 1)) (at + 1)) _ (ne_eqb c _ (λ e. other (e ∙ ap (λ i. get_or name i 0) here ∙ sym is))))
  ]
  | inr elsewhere ↦
      old elsewhere ∙ stand c k inside under ∙ ap (λ t. c == 63 || (t && c == get_or name (length name - (k + 1)) 0)) (sym (read_on _ at elsewhere))
]
  where
    new : List ℕ
    new = set words byte (bit_or (get_or words byte 0) (1 * 2 ^ (length name - at) % 2 ^ 128))

    old : (length name - (k + 1) ≢ at) → (bit_at (get_or new c 0) (k + 1) == 1) ≡ (bit_at (get_or words c 0) (k + 1) == 1)
    old elsewhere = elim (cases_eq c byte) [
      | inl same ↦
          ap (λ w. bit_at w (k + 1) == 1) (ap (λ b. get_or new b 0) same ∙ get_or-set_same words byte _ 0 (omega (arith, low, sized)))
          ∙ ap (λ b. b == 1) (bit_at_set_other w128 (get_or words byte 0) (length name - at) (omega (arith, short)) (k + 1) (λ e. elsewhere (omega (arith, e, under, within))))
          ∙ ap (λ b. bit_at (get_or words b 0) (k + 1) == 1) (sym same)
      | inr other ↦ ap (λ w. bit_at w (k + 1) == 1) (get_or-set_other words byte c _ 0 other)
    ]

pub stand_first : (name : List ℕ) → length name < 128 → StandUpTo name (set (replicate 256 0) 63 (2 ^ 128 - 1)) 0
stand_first name short c k inside under = elim (cases_eq c 63) [
  | inl any ↦
      ap (λ w. bit_at w (k + 1) == 1) (ap (λ b. get_or (set (replicate 256 0) 63 (2 ^ 128 - 1)) b 0) any ∙ get_or-set_same (replicate 256 0) 63 (2 ^ 128 - 1) 0 (omega (arith, length-replicate {A = ℕ} 256 0)))
      ∙ ap (λ b. b == 1) (bit_at_ones 128 (k + 1) (omega (arith, short, under)))
      ∙ sym (or_left (c == 63) _ (eq-eqb c 63 any))
  | inr other ↦
      ap (λ w. bit_at w (k + 1) == 1) (get_or-set_other (replicate 256 0) 63 c (2 ^ 128 - 1) 0 other ∙ get_or-replicate 256 c 0 0 inside)
      ∙ ap (λ b. b == 1) (bit_at-zero (k + 1)) ∙ sym (none_read name c k other)
]

-- the whole name is read
pub stand_all : (name words : List ℕ) → StandUpTo name words (length name) → AreBeginnings name words
stand_all name words stand c k inside under =
    stand c k inside under ∙ ap (λ t. c == 63 || (t && c == get_or name (length name - (k + 1)) 0)) (lt-ltb (length name - (k + 1)) (length name) (omega (arith, under)))

-- ── a pattern that no part has
none_star : (pattern name : List ℕ) → ((k : ℕ) → k ≤ length name → name_matches pattern (last name k) ≡ false) → (j : ℕ) → j ≤ length name → name_matches (42 ∷ pattern) (last name j) ≡ false
none_star pattern name none zero low = ap (name_matches (42 ∷ pattern)) (last_none name) ∙ star_nil pattern ∙ sym (ap (name_matches pattern) (last_none name)) ∙ none 0 low
none_star pattern name none (suc j) low =
    let within : j < length name = omega (arith, low) in
    let more : last name (j + 1) ≡ get_or name (length name - (j + 1)) 0 ∷ last name j = last_more name j within in
    subst (λ n. name_matches (42 ∷ pattern) (last name n) ≡ false) (add-one j)
    (ap (name_matches (42 ∷ pattern)) more ∙ star_cons pattern _ _
    ∙ ap (λ b. b || name_matches (42 ∷ pattern) (last name j)) (sym (ap (name_matches pattern) more) ∙ none (j + 1) (omega (arith, low)))
    ∙ none_star pattern name none j (omega (arith, low)))

none_byte : (c : ℕ) (pattern name : List ℕ) → c ≢ 42 → ((k : ℕ) → k ≤ length name → name_matches pattern (last name k) ≡ false) → (j : ℕ) → j ≤ length name → name_matches (c ∷ pattern) (last name j) ≡ false
none_byte c pattern name other none zero low = ap (name_matches (c ∷ pattern)) (last_none name) ∙ byte_nil c pattern other
none_byte c pattern name other none (suc j) low =
    let within : j < length name = omega (arith, low) in
    subst (λ n. name_matches (c ∷ pattern) (last name n) ≡ false) (add-one j)
    (ap (name_matches (c ∷ pattern)) (last_more name j within) ∙ byte_here c _ pattern (last name j) other
    ∙ ap (λ b. (c == 63 || c == get_or name (length name - (j + 1)) 0) && b) (none j (omega (arith, low))) ∙ and_false _)

-- nor does one that ends like it
none_longer : (front pattern name : List ℕ) → ((k : ℕ) → k ≤ length name → name_matches pattern (last name k) ≡ false) → (j : ℕ) → j ≤ length name → name_matches (front ++ pattern) (last name j) ≡ false
none_longer [] pattern name none j low = none j low
none_longer (c ∷ front) pattern name none j low = elim (cases_eq c 42) [
  | inl star ↦ subst (λ b. name_matches (b ∷ front ++ pattern) (last name j) ≡ false) (sym star) (none_star (front ++ pattern) name (none_longer front pattern name none) j low)
  | inr other ↦ none_byte c (front ++ pattern) name other (none_longer front pattern name none) j low
]

pub no_parts : (front pattern name : List ℕ) → ArePartsWith pattern name 0 → name_matches (front ++ pattern) name ≡ false
no_parts front pattern name are =
    sym (ap (name_matches (front ++ pattern)) (last_all name))
    ∙ none_longer front pattern name (λ k low. sym (are k low) ∙ ap (λ b. b == 1) (bit_at-zero k)) (length name) (omega arith)

-- ── the bytes of a pattern that are left, from the front, and the parts that the others have
abbrev pub IsReadBack : List ℕ → List ℕ → List ℕ → ℕ → Type 0
IsReadBack pattern name left parts = (read : List ℕ) × ((pattern ≡ left ++ read) × ArePartsWith read name parts)

pub read_end : (pattern name : List ℕ) (parts : ℕ) → IsReadBack pattern name [] parts → (bit_and (parts / 2 ^ length name) 1 == 1) ≡ name_matches pattern name
read_end pattern name parts (read, (is, are)) =
    ap (λ b. b == 1) (shr_and_one parts (length name)) ∙ are (length name) (omega arith) ∙ ap (name_matches read) (last_all name) ∙ sym (ap (λ p. name_matches p name) is)

pub read_none : (pattern name left : List ℕ) → IsReadBack pattern name left 0 → name_matches pattern name ≡ false
read_none pattern name left (read, (is, are)) = ap (λ p. name_matches p name) is ∙ no_parts left read name are

pub read_byte : (pattern name left : List ℕ) (byte parts before : ℕ)
    → ((read : List ℕ) → ArePartsWith read name parts → ArePartsWith (byte ∷ read) name before) → IsReadBack pattern name (push left byte) parts → IsReadBack pattern name left before
read_byte pattern name left byte parts before step (read, (is, are)) = (byte ∷ read, (is ∙ append_assoc left (byte ∷ []) read, step read are))

pub read_first : (pattern name : List ℕ) → length name < 128 → IsReadBack pattern name pattern 1
read_first pattern name short = ([], (sym (append-nil pattern), parts_of_nothing name short))

pub no_length : (left : List ℕ) → length left ≡ 0 → left ≡ []
no_length [] none = refl
no_length (b ∷ left) none = absurd (omega (arith, none))
