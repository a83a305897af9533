-- The marks and the count of a GAP.
use Rattle.std.proofs.Common.{◌≡◌, ℕ, ◌+◌, ◌≤◌, ltb, leb, Bool, true, false, cond, not, ◌&&◌, ◌||◌, ◌==◌, refl, sym, arith, inl, inr}
use Rattle.std.proofs.lemmas.Bool.{and_parts, leb-true, cases_Bool, cases_lt, cases_order, lt-leb, lt-ltb, le-ltb, le-leb, eq-eqb, ne_eqb}
use Rattle.dds_base.proofs.Bools.{or_false}
use Rattle.dds_base.specs.Counts.{count_between}
use Rattle.dds_base.specs.Sets.{NumberSet, has}
use Rattle.dds_base.proofs.CountLaws.{count_join, count_same, count_more_yes, count_more_no, count_empty}

-- false adds nothing to an or
-- a test that fails adds nothing
fades : (a b : Bool) → (a || (b && false)) ≡ a
fades true b = refl
fades false true = refl
fades false false = refl

-- past the range, an element of the set counts where it had no mark before
past : (l h q : Bool) → (((l && false) || h) && not q) ≡ (h && not (q || (l && false)))
past true true true = refl
past true true false = refl
past true false q = refl
past false true true = refl
past false true false = refl
past false false q = refl

-- the element itself
or_first : (b : Bool) → ((b && false) || (b && true)) ≡ (b && true)
or_first true = refl
or_first false = refl

-- an element below
or_second : (b : Bool) → ((b && true) || (b && false)) ≡ (b && true)
or_second true = refl
or_second false = refl

-- an element above
or_neither : (b : Bool) → ((b && false) || (b && false)) ≡ (b && false)
or_neither true = refl
or_neither false = refl

-- one number more of a set, in order
pub lt_step : (h : ℕ → Bool) (n m : ℕ) → ((h m && ltb m n) || (h m && (m == n))) ≡ (h m && ltb m (n + 1))
lt_step h n m = elim (cases_order m n) [
  | inl e ↦ rw (e, le-ltb n n (omega arith), eq-eqb n n refl, lt-ltb n (n + 1) (omega arith)) (or_first (h n))
  | inr other ↦ elim other [
    | inl below ↦ rw (ne_eqb m n (λ e. absurd (omega arith)), lt-ltb m n below, lt-ltb m (n + 1) (omega arith)) (or_second (h m))
    | inr above ↦ rw (ne_eqb m n (λ e. absurd (omega arith)), le-ltb m n (omega arith), le-ltb m (n + 1) (omega arith)) (or_neither (h m))
  ]
]

-- an element of a set is not below its base
pub from_base : (s : NumberSet) (n : ℕ) → has s n ≡ true → s.base ≤ n
from_base s n h = leb-true s.base n (and_parts (leb s.base n) _ h).0

-- no element of a set is below its base
pub none_before : (h : ℕ → Bool) (base m : ℕ) (a : Bool) → (leb base m ≡ false → h m ≡ false) → a ≡ (a || (h m && ltb m (base + 0)))
none_before h base m a outside = elim (cases_lt m base) [
  | inl below ↦ rw (outside (lt-leb base m below)) (sym (or_false a))
  | inr above ↦ rw (le-ltb m (base + 0) (omega arith)) (sym (fades a (h m)))
]

-- two additions of marks are one
pub or_step : (a x y z : Bool) → (x || y) ≡ z → ((a || x) || y) ≡ (a || z)
or_step true x y z e = refl
or_step false x y z e = e

-- no element is below itself
pub none_yet : (a : Bool) (h : ℕ → Bool) (n : ℕ) → (a || (h n && ltb n n)) ≡ a
none_yet a h n = rw (le-ltb n n (omega arith)) (fades a (h n))

-- a count of one number
pub count_one : (p : ℕ → Bool) (n : ℕ) → count_between p n (n + 1) ≡ cond (p n) 1 0
count_one p n = elim (cases_Bool (p n)) [
  | inl t ↦ rw t (omega (arith, count_more_yes p n n (omega arith) t, count_empty p n))
  | inr f ↦ rw f (omega (arith, count_more_no p n n (omega arith) f, count_empty p n))
]

-- one number more
pub count_step : (p : ℕ → Bool) (a n count : ℕ) → a ≤ n → count ≡ count_between p a n → count + cond (p n) 1 0 ≡ count_between p a (n + 1)
count_step p a n count an e = omega (arith, e, count_one p n, count_join p a n (n + 1) an (omega arith))

-- the count of a GAP is that below the set's base and that of the set
pub parts_count : (start base : ℕ) (h q q' : ℕ → Bool) → start ≤ base → ((n : ℕ) → q' n ≡ (q n || (leb start n && ltb n base)))
    → count_between (λ n. not (q n)) start base + count_between (λ n. h n && not (q' n)) base (base + 256)
    ≡ count_between (λ n. ((leb start n && ltb n base) || h n) && not (q n)) start (base + 256)
parts_count start base h q q' le grown =
    let whole = count_join (λ n. ((leb start n && ltb n base) || h n) && not (q n)) start base (base + 256) le (omega arith) in
    let first = count_same (λ n. ((leb start n && ltb n base) || h n) && not (q n)) (λ n. not (q n)) start base
    (λ n low high. rw (le-leb start n low, lt-ltb n base high) refl) in
    let second = count_same (λ n. ((leb start n && ltb n base) || h n) && not (q n)) (λ n. h n && not (q' n)) base (base + 256)
    (λ n low high. rw (grown n, le-ltb n base low) (past (leb start n) (h n) (q n))) in
    omega (arith, whole, first, second)
