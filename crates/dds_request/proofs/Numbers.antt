-- The number of an argument.
use Rattle.std.proofs.Common.{◌≡◌, ◌∙◌, ℕ, List, Option, Some, None, Result, IfNone, IfSome, sym}
use Rattle.std.specs.Str.Parse.{ParsesUnsigned, ExplainsUnsignedError, HasUnsignedDigitsIfOk}
use Rattle.std.specs.declared.num.ParseIntError.{ParseIntError}
use Rattle.clap.specs.Words.{ReadsOne, Text, one_text, rows_of}
use Rattle.clap.specs.declared.parser.matches.Found.{Found}
use Rattle.clap.proofs.WalkLemmas.{one_text-rows}
use Rattle.dds_request.specs.Asking.{Counts}

-- how a text is read as a number of 16 bits
abbrev pub Parses : List ℕ → Result ℕ ParseIntError → Type 0
Parses text r = ParsesUnsigned 16 10 text r × ExplainsUnsignedError 10 text r × HasUnsignedDigitsIfOk text r

-- a number that was read is the argument's
pub counted : (f : Found) (id : Text) (o : Option Text) (r : Option ℕ) → one_text f id ≡ o → (one_text f id ≡ None → r ≡ None)
    → ((t : Text) → one_text f id ≡ Some t → ReadsOne Parses t r) → IfSome r (Counts (rows_of f) id)
counted f id o None is none value = tt
counted f id None (Some n) is none value = let e = none is in cc
counted f id (Some t) (Some n) is none value = let read = value t is in (t, sym (one_text-rows f id) ∙ is, read.0.0.0, sym read.0.1, rw read.0.1 read.0.0.1)

-- where none was read, the argument has none
pub uncounted : (f : Found) (id : Text) (r : Option ℕ) → ((t : Text) → one_text f id ≡ Some t → ReadsOne Parses t r)
    → IfNone r ((n : ℕ) → Counts (rows_of f) id n → ⊥)
uncounted f id (Some n) value = tt
uncounted f id None value = λ n counts.
    let read = value counts.0 (one_text-rows f id ∙ counts.1) in
    read.1.0 (counts.2, rw counts.3 counts.4)
