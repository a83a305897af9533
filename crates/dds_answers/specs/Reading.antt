-- What a counted reader counts, and how a reading of a whole file ends.
use Rattle.std.specs.Prelude.{ℕ, Bool, ◌≡◌, ◌≢◌, ◌+◌, ◌-◌, ◌^◌, ◌||◌, min, nat_lt, MatchResult, Result}
use Rattle.std.specs.IoError.{error_kind}
use Rattle.std.specs.declared.io.Error.{Error}
use Rattle.std.specs.declared.io.ErrorKind.TheVariants.{Interrupted}
use Rattle.dds_answers.specs.declared.fault.ToolFault.{ToolFault}
use Rattle.dds_answers.specs.declared.fault.ToolFault.TheVariants as fault

-- the most bytes that a file may have
abbrev pub most_bytes : ℕ
most_bytes = 1048576

-- the most bytes that a file of events or a trace may have
abbrev pub most_event_bytes : ℕ
most_event_bytes = 67108864

-- one more, up to 2^64 - 1
abbrev pub one_more : ℕ → ℕ
one_more n = min (n + 1) (2 ^ 64 - 1)

-- From the counts of failed and of interrupted reads to those after a read with this answer.
abbrev pub CountsRead : Result ℕ Error → ℕ × ℕ → ℕ × ℕ → Type 0
CountsRead answer old new = MatchResult answer
    (λ _. (new.0 ≡ old.0) × (new.1 ≡ old.1))
    (λ e. (error_kind e ≡ Interrupted → (new.0 ≡ old.0) × (new.1 ≡ one_more old.1))
    × (error_kind e ≢ Interrupted → (new.0 ≡ one_more old.0) × (new.1 ≡ old.1)))

-- after a read that failed, or more than 1,000 that were interrupted, no reader is read on
abbrev pub is_worn : (failed interrupted : ℕ) → Bool
is_worn failed interrupted = nat_lt 0 failed || nat_lt 1000 interrupted

-- the faults that the reading of a whole file can end in
abbrev pub IsReadingFault : ToolFault → Type 0
IsReadingFault fault.TooLarge = Unit {0}
IsReadingFault fault.Read = Unit {0}
IsReadingFault fault.NoMemory = Unit {0}
IsReadingFault _ = ⊥
