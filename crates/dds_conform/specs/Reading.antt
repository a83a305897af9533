-- What the lines of a trace say.
use Rattle.std.specs.Prelude.{◌≡◌, ◌≢◌, ℕ, suc, ◌-◌, ◌^◌, ◌<◌, ◌≤◌, ◌==◌, nat_eq, nat_le, nat_lt, Bool, true, false, not, ◌&&◌, ◌||◌, if◌then◌else◌, is_some, List, [], ◌∷◌, codes, length, map, Option, Some, None, All, slice_get, take, count_by, IsUtf8}
use Rattle.std.specs.List.{after_first, before_first, starts_with, list_all, list_any}
use Rattle.std.specs.Str.Lines.{lines}
use Rattle.std.specs.Str.Parse.{digits_value}
use Rattle.dds_base.specs.Names.{is_between}
use Rattle.dds_lists.specs.Lists.{Lists}
use Rattle.dds_conform.specs.declared.actions.Action.{Action}
use Rattle.dds_conform.specs.declared.actions.Entry.{Entry}
use Rattle.dds_conform.specs.declared.fault.TraceFault.{TraceFault}
use Rattle.dds_conform.specs.declared.fault.TraceFault.TheVariants.{At, NoMemory}
use Rattle.dds_conform.specs.declared.fault.TraceFaultKind.TheVariants.{NotText, NotAnEntry, Foreign, MissingTime, TimeFalls}
use Rattle.dds_conform.specs.Entries.{entry_action, entry_application, entry_line}
use Rattle.dds_conform.specs.Actions.{IsThere, action_text, is_own}

-- ── one line
-- a line says something unless it is empty or a comment
abbrev pub says_something : List ℕ → Bool
says_something line = not (length line == 0) && not (starts_with nat_eq line (codes "#"))

abbrev pub is_blank : ℕ → Bool
is_blank b = b == 32

abbrev pub is_digit : ℕ → Bool
is_digit b = is_between 48 57 b

-- a time is a word of digits, with a point among them at most
abbrev pub is_time : List ℕ → Bool
is_time word = list_any is_digit word && (list_all (λ b. is_digit b || (b == 46)) word && nat_le (count_by (λ b. b == 46) word) 1)

abbrev pub are_digits : List ℕ → Bool
are_digits ds = list_any is_digit ds && list_all is_digit ds

-- the number of nanoseconds below 2^63 that digits write
abbrev pub nanoseconds : List ℕ → Option ℕ
nanoseconds ds = if are_digits ds && nat_lt (digits_value 10 ds) (2 ^ 63) then Some (digits_value 10 ds) else None

-- the nanoseconds that a word gives as a time: digits after `@`
abbrev pub stamp_in : List ℕ → Option ℕ
stamp_in [] = None
stamp_in (b ∷ bs) = if b == 64 then nanoseconds bs else None

-- a line begins with a time of either kind
abbrev pub is_head : List ℕ → Bool
is_head word = is_time word || is_some (stamp_in word)

-- what a line says: what stands after a time and a blank
abbrev pub told : List ℕ → Option (List ℕ)
told line = if list_any is_blank line && is_head (before_first is_blank line) then Some (after_first is_blank line) else None

-- ── lines
-- what the lines say that say something, where the first line of all has this number
unfoldable pub told_from : ℕ → List (List ℕ) → List (ℕ × Option (List ℕ))
told_from n [] = []
told_from n (line ∷ ls) = if says_something line then (n, told line) ∷ told_from (suc n) ls else told_from (suc n) ls

-- an entry as a line says it, with the number of the line
abbrev pub shown : Lists → Entry → ℕ × Option (List ℕ)
shown d e = (entry_line e, Some (action_text d (entry_application e) (entry_action e)))

-- the application is there, and what it did is its own
abbrev pub IsEntryOf : Lists → Entry → Type 0
IsEntryOf d e = (entry_application e < length d.applications.entries) × (is_own d (entry_application e) (entry_action e) ≡ true)

-- each line that says something stands for an entry, these in their order
pub record AreEntries (d : Lists) (ls : List (List ℕ)) (entries : List Entry) : Type 0 where
  pub told : map (shown d) entries ≡ told_from 1 ls
  pub known : All (IsEntryOf d) entries

-- ── faults
-- the line says nothing that an application of the deployment does at an endpoint that is there
abbrev pub TellsNothing : Lists → List ℕ → Type 0
TellsNothing d line = (a : ℕ) (x : Action) → a < length d.applications.entries → IsThere d x → told line ≢ Some (action_text d a x)

-- the line says what isn't the application's own
abbrev pub TellsForeign : Lists → List ℕ → Type 0
TellsForeign d line = (a : ℕ) × (x : Action) × (told line ≡ Some (action_text d a x)) × (is_own d a x ≡ false)

-- a fault that the line with this number may have
abbrev pub IsFaultAt : Lists → ℕ → List ℕ → TraceFault → Type 0
IsFaultAt d n line (At NotText m) = ⊥
IsFaultAt d n line (At NotAnEntry m) = (m ≡ n) × TellsNothing d line
IsFaultAt d n line (At Foreign m) = (m ≡ n) × TellsForeign d line
IsFaultAt d n line (At MissingTime m) = ⊥
IsFaultAt d n line (At TimeFalls m) = ⊥
IsFaultAt d n line NoMemory = ⊥

-- or memory ran out
abbrev pub IsPushFault : Lists → ℕ → List ℕ → TraceFault → Type 0
IsPushFault d n line NoMemory = Unit {0}
IsPushFault d n line (At kind m) = IsFaultAt d n line (At kind m)

-- the line with number n says something and has the fault, and the lines before it stand for entries
pub record IsFirstFault (d : Lists) (ls : List (List ℕ)) (fault : TraceFault) : Type 0 where
  pub number : ℕ
  pub line : List ℕ
  pub at : slice_get ls (number - 1) ≡ Some line
  pub counted : 1 ≤ number
  pub says : says_something line ≡ true
  pub has : IsFaultAt d number line fault
  pub entries : List Entry
  pub before : AreEntries d (take (number - 1) ls) entries

-- a fault that lines may have, the first
abbrev pub IsLineFaultOf : Lists → List (List ℕ) → TraceFault → Type 0
IsLineFaultOf d ls NoMemory = Unit {0}
IsLineFaultOf d ls (At kind n) = IsFirstFault d ls (At kind n)
