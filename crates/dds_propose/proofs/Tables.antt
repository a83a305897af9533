-- What is put into tables and found there.
use Rattle.std.proofs.Common.{ℕ, arith, ◌≡◌, ◌⊎◌, ◌+◌, ◌*◌, ◌<◌, ◌≤◌, ◌==◌, ◌&&◌, nat_lt, inl, inr, zero, suc, Bool, true, false, List, if◌then◌else◌, replicate, refl, ap, ◌∙◌, get_or}
use Rattle.std.proofs.lemmas.Bool.{and_parts, and_from, and_right, ltb-true, lt-ltb, eqb-true, eq-eqb, cases_eq, cases_Bool, le-ltb, true_from_ne_false, false_from_ne_true}
use Rattle.dds_propose.specs.Tables.{cell, is_place}

-- a list of one number has only this
one_number : (n i d : ℕ) → get_or (replicate n d) i d ≡ d
one_number zero i d = refl
one_number (suc n) zero d = refl
one_number (suc n) (suc i) d = one_number n i d

-- each place of a table of zeros has 0
pub zeros : (n : ℕ) (cells : List ℕ) (e k : ℕ) → cells ≡ replicate n 0 → cell cells e k ≡ 0
unfolding cell
zeros n cells e k same = go (is_place e k)
  where
    go : (b : Bool) → (if b then get_or cells (e * 64 + k) 0 else 0) ≡ 0
    go true = ap (λ xs. get_or xs (e * 64 + k) 0) same ∙ one_number n (e * 64 + k) 0
    go false = refl

-- where there is no place there is no number
pub cell_outside : (cells : List ℕ) (e k : ℕ) → is_place e k ≡ false → cell cells e k ≡ 0
unfolding cell
cell_outside cells e k outside = rw outside refl

-- a number has a place
pub place_of : (cells : List ℕ) (e k : ℕ) → 1 ≤ cell cells e k → is_place e k ≡ true
place_of cells e k some = true_from_ne_false (is_place e k) (λ outside. let none = cell_outside cells e k outside in omega arith)

pub place_within : (e k : ℕ) → is_place e k ≡ true → (e < 256) × (k < 64)
place_within e k place = let parts = and_parts (nat_lt e 256) (nat_lt k 64) place in (ltb-true e 256 parts.0, ltb-true k 64 parts.1)

pub is_there : (e k : ℕ) → e < 256 → k < 64 → is_place e k ≡ true
is_there e k few small = and_from (nat_lt e 256) (nat_lt k 64) (lt-ltb e 256 few) (lt-ltb k 64 small)

-- what is put at its own place
pub put_there : (f : ℕ) (place own : Bool) (n : ℕ) → place ≡ true → own ≡ true → (if place && own then n else f) ≡ n
put_there f place own n there same = rw (there, same) refl

pub put_elsewhere : (f : ℕ) (place own : Bool) (n : ℕ) → own ≡ false → (if place && own then n else f) ≡ f
put_elsewhere f place own n other = rw (and_right place own other) refl

-- one place is another only where both numbers are the same
pub same_pair : (i j e k : ℕ) → i ≡ e → j ≡ k → ((i == e) && (j == k)) ≡ true
same_pair i j e k here there = and_from (i == e) (j == k) (eq-eqb i e here) (eq-eqb j k there)

pub other_pair : (i j e k : ℕ) → ((i ≡ e) × (j ≡ k) → ⊥) → ((i == e) && (j == k)) ≡ false
other_pair i j e k apart = false_from_ne_true ((i == e) && (j == k)) (λ same. let parts = and_parts (i == e) (j == k) same in apart (eqb-true i e parts.0, eqb-true j k parts.1))

pub cases_pair : (i j e k : ℕ) → ((i ≡ e) × (j ≡ k)) ⊎ ((i ≡ e) × (j ≡ k) → ⊥)
cases_pair i j e k = elim (cases_eq i e) [
  | inl here ↦ elim (cases_eq j k) [ inl there ↦ inl (here, there) | inr ne ↦ inr (λ same. ne same.1) ]
  | inr ne ↦ inr (λ same. ne same.0)
]

-- past the last key there is no number
pub cell_past : (cells : List ℕ) (e k : ℕ) → 64 ≤ k → cell cells e k ≡ 0
cell_past cells e k past = cell_outside cells e k (and_right (nat_lt e 256) (nat_lt k 64) (le-ltb k 64 past))

-- what is put is found, where there is a place for a number
pub put_found : (cells new : List ℕ) (other : ℕ → ℕ → ℕ) (e k m n : ℕ) → ((i j : ℕ) → cell new i j ≡ if is_place i j && ((i == e) && (j == k)) then n else other i j) → m ≡ cell cells e k → m ≤ n → m ≤ cell new e k
put_found cells new other e k m n put found least = elim (cases_Bool (is_place e k)) [
  | inl there ↦ (let at = put e k ∙ put_there (other e k) (is_place e k) ((e == e) && (k == k)) n there (same_pair e k e k refl refl) in omega arith)
  | inr outside ↦ (let none = cell_outside cells e k outside in omega arith)
]
