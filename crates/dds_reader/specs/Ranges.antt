-- The marked numbers of one writer: those below a base, and ranges above it.
use Rattle.std.specs.Prelude.{◌≡◌, ℕ, ◌-◌, ◌<◌, ◌≤◌, Bool, true, false, ◌&&◌, ◌||◌, List, Option, None, Some, IsSome, nat_le, nat_lt}
use Rattle.std.specs.List.{list_any}
use Rattle.std.specs.Ordering.{nat_cmp}
use Rattle.std.specs.BTreeMap.{BTreeMap}
use Rattle.std.specs.BTreeMap as tree
use Rattle.std.proofs.Common.{◌⊎◌}
use Rattle.dds_base.specs.Counts.{count_between}
use Rattle.dds_base.specs.Sets.{last_number}

-- ranges by their first number, each with the number after its last
abbrev pub RangeMap : Type 0
RangeMap = BTreeMap ℕ ℕ

-- where the range that begins at a number ends
abbrev pub at : RangeMap → ℕ → Option ℕ
at m s = tree.get nat_cmp m s

-- the number is one of those from the first to the second less one
abbrev pub is_between : ℕ → ℕ → ℕ → Bool
is_between from until n = nat_le from n && nat_lt n until

-- a range has the number
abbrev pub holds : List (ℕ × ℕ) → ℕ → Bool
holds es n = list_any (λ e. is_between e.0 e.1 n) es

-- the number is marked: it is below the base, or a range has it
abbrev pub has : ℕ → RangeMap → ℕ → Bool
has base above n = is_between 1 base n || holds above.entries n

-- only numbers that a writer gives pass the test
abbrev pub OnlyNumbers : (ℕ → Bool) → Type 0
OnlyNumbers p = (n : ℕ) → p n ≡ true → (1 ≤ n) × (n ≤ last_number)

-- the number is the least from 1 on that has no mark
pub record IsLeastUnmarked (marks : ℕ → Bool) (b : ℕ) : Type 0 where
  pub low : 1 ≤ b
  pub unmarked : marks b ≡ false
  pub least : (k : ℕ) → 1 ≤ k → k < b → marks k ≡ true

-- ranges begin above the base, are not empty, and neither overlap nor touch
pub record IsApart (base : ℕ) (m : RangeMap) : Type 0 where
  pub ordered : tree.IsOrdered nat_cmp m
  pub each : (s e : ℕ) → at m s ≡ Some e → (base < s) × (s < e)
  pub apart : (s e t f : ℕ) → at m s ≡ Some e → at m t ≡ Some f → s < t → e < t

-- the same of the ranges that begin after a key
pub record IsAbove (m : RangeMap) (key start : ℕ) : Type 0 where
  pub each : (s e : ℕ) → at m s ≡ Some e → key < s → (start < s) × (s < e)
  pub apart : (s e t f : ℕ) → at m s ≡ Some e → at m t ≡ Some f → key < s → s < t → e < t

-- no range begins after a key and up to a number
abbrev pub NoneIn : RangeMap → ℕ → ℕ → Type 0
NoneIn m key until = (q : ℕ) → key < q → q ≤ until → at m q ≡ None

-- the pair is the first range that begins after a key, and it begins up to a number
pub record IsFirstIn (m : RangeMap) (key until : ℕ) (p : ℕ × ℕ) : Type 0 where
  pub after : key < p.0
  pub upto : p.0 ≤ until
  pub there : at m p.0 ≡ Some p.1
  pub first : (q : ℕ) → key < q → IsSome (at m q) → p.0 ≤ q

-- the pair is the last range that begins up to a number
pub record IsLastUpTo (m : RangeMap) (n : ℕ) (p : ℕ × ℕ) : Type 0 where
  pub upto : p.0 ≤ n
  pub there : at m p.0 ≡ Some p.1
  pub last : (q : ℕ) → q ≤ n → IsSome (at m q) → q ≤ p.0

-- a test that is true on the ranges that begin after a key, and false elsewhere from the start on
pub record Tests (m : RangeMap) (key start : ℕ) (p : ℕ → Bool) : Type 0 where
  pub yes : (s e n : ℕ) → at m s ≡ Some e → key < s → s ≤ n → n < e → p n ≡ true
  pub no : (n : ℕ) → start ≤ n → ((s e : ℕ) → at m s ≡ Some e → key < s → s ≤ n → n < e → ⊥) → p n ≡ false

-- what is left of the ranges after a key, once those up to a cursor are gone
pub record IsLeft (old new : RangeMap) (key cursor : ℕ) : Type 0 where
  pub kept : (q : ℕ) → q ≤ key → at new q ≡ at old q
  pub left : (q e : ℕ) → key < q → at new q ≡ Some e → (at old q ≡ Some e) × (cursor < q)
  pub gone : (q e : ℕ) → key < q → at old q ≡ Some e → (at new q ≡ Some e) ⊎ (e ≤ cursor)

-- the numbers from one to another less one are all in ranges that begin after a key
abbrev pub IsJoined : RangeMap → ℕ → ℕ → ℕ → Type 0
IsJoined old key until end = (n : ℕ) → until ≤ n → n < end → (s : ℕ) × (e : ℕ) × (at old s ≡ Some e) × (key < s) × (s ≤ n) × (n < e)

-- ranges after a key were taken out, with each of them the end moved on, none is left up to the end, and they had so many numbers
pub record IsAbsorbed (old new : RangeMap) (key start until end known : ℕ) : Type 0 where
  pub ordered : tree.IsOrdered nat_cmp new
  pub further : until ≤ end
  pub left : IsLeft old new key end
  pub joined : IsJoined old key until end
  pub small : known ≤ end - start
  pub count : (p : ℕ → Bool) → Tests old key start p → known ≡ count_between p start end

-- no range touches a number from below, or begins there
abbrev pub IsFree : RangeMap → ℕ → Type 0
IsFree m from = (at m from ≡ None) × ((q e : ℕ) → q < from → at m q ≡ Some e → e < from)
