-- The flags of a set of numbers.
use Rattle.std.proofs.Common.{◌≡◌, ℕ, ◌+◌, ◌-◌, ◌<◌, ◌≤◌, ◌==◌, leb, Bool, true, false, ◌&&◌, ◌||◌, List, length, get_or, set, refl, sym, ap, ◌∙◌, arith, inl, inr, replicate, get_or-set_same, get_or-set_other, length-set}
use Rattle.std.proofs.lemmas.List.{get_or-replicate, get_or_past, length-replicate}
use Rattle.std.proofs.lemmas.Bool.{cases_eq, cases_lt, lt-leb, le-leb, eq-eqb, ne_eqb, or_right, and_right}
use Rattle.dds_base.proofs.Bools.{or_false}
use Rattle.dds_base.specs.Sets.{NumberSet, has_flag, set_of, last_number}
use Rattle.dds_base.proofs.SetLaws.{flags_are}

-- of flags that are all false none is set
pub no_flag : (n k : ℕ) → get_or (replicate n false) k false ≡ false
no_flag n k = elim (cases_lt k n) [
  | inl within ↦ get_or-replicate n k false false within
  | inr past ↦ get_or_past (replicate n false) k false (rw length-replicate past)
]

pub no_flags : (n base m : ℕ) → has_flag base (replicate n false) m ≡ false
no_flags n base m = and_right (leb base m) (get_or (replicate n false) (m - base) false) (no_flag n (m - base))

-- a set flag is one that was set or the new one
pub range_set : (base x k : ℕ) (ms : List Bool) → base ≤ x → x - base < length ms → x ≤ last_number → ((j : ℕ) → get_or ms j false ≡ true → base + j ≤ last_number) → get_or (set ms (x - base) true) k false ≡ true → base + k ≤ last_number
range_set base x k ms le lt fits old h = elim (cases_eq k (x - base)) [
  | inl e ↦ omega arith
  | inr ne ↦ old k (sym (get_or-set_other ms (x - base) k true false ne) ∙ h)
]

flag_itself : (base x : ℕ) (ms : List Bool) → base ≤ x → x - base < length ms → has_flag base (set ms (x - base) true) x ≡ true
flag_itself base x ms le lt = rw (le-leb base x le, get_or-set_same ms (x - base) true false lt) refl

flag_other : (base x n : ℕ) (ms : List Bool) → base ≤ x → (n ≡ x → ⊥) → has_flag base (set ms (x - base) true) n ≡ has_flag base ms n
flag_other base x n ms le ne = elim (cases_lt n base) [
  | inl below ↦ rw (lt-leb base n below) refl
  | inr above ↦
      let apart : n - base ≡ x - base → ⊥ = λ e. ne (omega arith) in
      ap (λ b. leb base n && b) (get_or-set_other ms (x - base) (n - base) true false apart)
]

pub flag_set : (base x n : ℕ) (ms : List Bool) → base ≤ x → x - base < length ms → has_flag base (set ms (x - base) true) n ≡ (has_flag base ms n || (x == n))
flag_set base x n ms le lt = elim (cases_eq n x) [
  | inl e ↦ rw (e, flag_itself base x ms le lt) (sym (or_right _ _ (eq-eqb x x refl)))
  | inr ne ↦ rw (flag_other base x n ms le ne, ne_eqb x n (λ e. ne (sym e))) (sym (or_false _))
]

abbrev pub set_with_flag : ℕ → ℕ → List Bool → NumberSet
set_with_flag base x flags = record { base = base; flags = set flags (x - base) true }

-- a set with one number more
pub set_with : (base x : ℕ) (flags : List Bool) → length flags ≡ 256 → base ≤ x → x - base < 256 → set_with_flag base x flags ≡ set_of base (λ m. has_flag base flags m || (x == m))
set_with base x flags long low high = ap (λ fs. record { base = base; flags = fs }) (flags_are base (λ m. has_flag base flags m || (x == m)) (set flags (x - base) true) (length-set flags (x - base) true ∙ long) (λ n from to. flag_set base x n flags low (omega (arith, long))))
