-- Laws of sets of numbers: what a set has, and when two are equal.
use Rattle.std.proofs.Common.{◌≡◌, ℕ, ◌+◌, ◌-◌, ◌<◌, ◌≤◌, ◌⊎◌, leb, ltb, Bool, true, false, ◌&&◌, ◌==◌, ◌||◌, List, length, get_or, refl, sym, ap, ◌∙◌, arith, inl, inr, not, set, get_or-set_same, get_or-set_other}
use Rattle.std.proofs.lemmas.List.{ext_get_or, get_or_past}
use Rattle.std.proofs.lemmas.List.FromFn.{get_or-map-range_with_len, length-map-range_with_len}
use Rattle.std.proofs.lemmas.Bool.{cases_lt, cases_eq, eq-eqb, ne_eqb, lt-leb, le-leb, lt-ltb, le-ltb, and_right}
use Rattle.dds_base.proofs.Bools.{and_true, and_false, or_true, or_false}
use Rattle.dds_base.specs.Sets.{NumberSet, flags_of, set_of, has_flag, has}

pub length-flags_of : (base : ℕ) (p : ℕ → Bool) → length (flags_of base p) ≡ 256
unfolding flags_of
length-flags_of base p = length-map-range_with_len p base 256

pub get-flags_of : (base k : ℕ) (p : ℕ → Bool) → k < 256 → get_or (flags_of base p) k false ≡ p (base + k)
unfolding flags_of
get-flags_of base k p within = get_or-map-range_with_len p base 256 k (base + k) false within refl

-- 256 flags that answer as p are those of p
pub flags_are : (base : ℕ) (p : ℕ → Bool) (flags : List Bool) → length flags ≡ 256 → ((n : ℕ) → base ≤ n → n < base + 256 → has_flag base flags n ≡ p n) → flags ≡ flags_of base p
flags_are base p flags long answers = ext_get_or false flags (flags_of base p) (long ∙ sym (length-flags_of base p)) (λ k within.
    sym (at k) ∙ answers (base + k) (omega arith) (omega (arith, long)) ∙ sym (get-flags_of base k p (omega (arith, long))))
  where
    at : (k : ℕ) → has_flag base flags (base + k) ≡ get_or flags k false
    at k = let e : base + k - base ≡ k = omega arith in rw (le-leb base (base + k) (omega arith), e) refl

-- of the 256 numbers the set has those that pass
pub has_in : (base n : ℕ) (p : ℕ → Bool) → base ≤ n → n < base + 256 → has_flag base (flags_of base p) n ≡ p n
has_in base n p low high = let e : base + (n - base) ≡ n = omega arith in rw (le-leb base n low, get-flags_of base (n - base) p (omega arith), e) refl

-- sets of tests that agree on the 256 numbers are equal
pub same_set_of : (base : ℕ) (p q : ℕ → Bool) → ((n : ℕ) → base ≤ n → n < base + 256 → p n ≡ q n) → set_of base p ≡ set_of base q
same_set_of base p q same = ap (λ f. record { base = base; flags = f }) (flags_are base q (flags_of base p) (length-flags_of base p) (λ n low high. has_in base n p low high ∙ same n low high))

-- what a set has: the numbers from its base to base + 255 that pass
pub has-set_of : (base n : ℕ) (p : ℕ → Bool) → has (set_of base p) n ≡ (leb base n && (ltb n (base + 256) && p n))
has-set_of base n p = elim (cases_lt n base) [
  | inl below ↦ rw (lt-leb base n below) refl
  | inr above ↦ elim (cases_lt n (base + 256)) [
    | inl within ↦ let e : base + (n - base) ≡ n = omega arith in rw (le-leb base n above, lt-ltb n (base + 256) within, get-flags_of base (n - base) p (omega arith), e) refl
    | inr past ↦ rw (le-leb base n above, le-ltb n (base + 256) past, get_or_past (flags_of base p) (n - base) false (rw (length-flags_of base p) (omega arith))) refl
  ]
]

-- the empty set has none
pub has_none : (base n : ℕ) → has (set_of base (λ m. false)) n ≡ false
has_none base n = has-set_of base n (λ m. false) ∙ and_right (leb base n) (ltb n (base + 256) && false) (and_right (ltb n (base + 256)) false refl)

-- no set has a number past its 256
pub has_past : (s : NumberSet) (n : ℕ) → length s.flags ≡ 256 → s.base + 256 ≤ n → has s n ≡ false
has_past s n long past = and_right (leb s.base n) (get_or s.flags (n - s.base) false) (get_or_past s.flags (n - s.base) false (rw long (omega arith)))

pub has_within : (s : NumberSet) (n top : ℕ) → length s.flags ≡ 256 → s.base + 256 ≤ top → (has s n && ltb n top) ≡ has s n
has_within s n top long high = elim (cases_lt n top) [
  | inl below ↦ rw (lt-ltb n top below) (and_true (has s n))
  | inr past ↦ rw (le-ltb n top past) (and_right (has s n) false refl ∙ sym (has_past s n long (omega arith)))
]

-- of flags that are cleared one by one from a first one on, at the end those up to the end are
pub cut_whole : (first k end j : ℕ) → end ≤ k → (k ≡ first) ⊎ (k ≤ end) → (leb first j && ltb j k) ≡ (leb first j && ltb j end)
cut_whole first k end j past (inr low) = let e : k ≡ end = omega arith in rw e refl
cut_whole first k end j past (inl e) = elim (cases_lt j first) [
  | inl below ↦ rw (lt-leb first j below) refl
  | inr above ↦ rw (e, le-ltb j first above, le-ltb j end (omega arith)) refl
]

pub cut_none : (first j : ℕ) → (leb first j && ltb j first) ≡ false
cut_none first j = elim (cases_lt j first) [
  | inl below ↦ rw (lt-leb first j below) refl
  | inr above ↦ rw (le-ltb j first above) (and_right (leb first j) false refl)
]

-- a flag is kept where it isn't the one that is cut, and where it wasn't cut before
pub cut_more : (first k j : ℕ) (flags : List Bool) (b : Bool) → first ≤ k → k < length flags → get_or flags j false ≡ (b && not (leb first j && ltb j k)) → get_or (set flags k false) j false ≡ (b && not (leb first j && ltb j (k + 1)))
cut_more first k j flags b low long was = elim (cases_eq j k) [
  | inl e ↦ rw (e, get_or-set_same flags k false false long, le-leb first k low, lt-ltb k (k + 1) (omega arith)) (sym (and_right b false refl))
  | inr ne ↦ get_or-set_other flags k j false false ne ∙ was ∙ ap (λ t. b && not (leb first j && t)) (elim (cases_lt j k) [
    | inl below ↦ lt-ltb j k below ∙ sym (lt-ltb j (k + 1) (omega arith))
    | inr above ↦ le-ltb j k above ∙ sym (le-ltb j (k + 1) (omega (arith, ne)))
  ])
]

-- a set that grows number by number: of those below a number it has the ones that pass
pub set_starts : (base : ℕ) (p : ℕ → Bool) → set_of base (λ n. false) ≡ set_of base (λ n. ltb n base && p n)
set_starts base p = same_set_of base (λ n. false) (λ n. ltb n base && p n) (λ n low high. rw (le-ltb n base low) refl)

below_next : (x n : ℕ) → (n ≡ x → ⊥) → ltb n (x + 1) ≡ ltb n x
below_next x n ne = elim (cases_lt n x) [
  | inl below ↦ rw (lt-ltb n x below, lt-ltb n (x + 1) (omega arith)) refl
  | inr above ↦ rw (le-ltb n x above, le-ltb n (x + 1) (omega (arith, ne))) refl
]

pub set_grows : (base x : ℕ) (p : ℕ → Bool) → p x ≡ true → set_of base (λ m. has (set_of base (λ n. ltb n x && p n)) m || (x == m)) ≡ set_of base (λ n. ltb n (x + 1) && p n)
set_grows base x p passes = same_set_of base (λ m. has (set_of base (λ n. ltb n x && p n)) m || (x == m)) (λ n. ltb n (x + 1) && p n) (λ m low high. ap (λ b. b || (x == m)) (has_in base m (λ n. ltb n x && p n) low high) ∙ elim (cases_eq m x) [
  | inl e ↦ rw (e, eq-eqb x x refl, lt-ltb x (x + 1) (omega arith), passes) (or_true (ltb x x && true))
  | inr ne ↦ rw (ne_eqb x m (λ e. ne (sym e)), below_next x m ne) (or_false (ltb m x && p m))
])

pub set_stays : (base x : ℕ) (p : ℕ → Bool) → p x ≡ false → set_of base (λ n. ltb n x && p n) ≡ set_of base (λ n. ltb n (x + 1) && p n)
set_stays base x p fails = same_set_of base (λ n. ltb n x && p n) (λ n. ltb n (x + 1) && p n) (λ m low high. elim (cases_eq m x) [
  | inl e ↦ rw (e, fails) (and_false (ltb x x) ∙ sym (and_false (ltb x (x + 1))))
  | inr ne ↦ ap (λ b. b && p m) (sym (below_next x m ne))
])

pub set_ends : (base end : ℕ) (p : ℕ → Bool) → ((n : ℕ) → end ≤ n → n < base + 256 → p n ≡ false) → set_of base (λ n. ltb n end && p n) ≡ set_of base p
set_ends base end p none = same_set_of base (λ n. ltb n end && p n) p (λ m low high. elim (cases_lt m end) [
  | inl below ↦ rw (lt-ltb m end below) refl
  | inr above ↦ rw (none m above high) (and_false (ltb m end))
])
