-- What a reader of the code returned against what reading gives.
use Rattle.std.specs.Prelude.{◌≡◌, ℕ, List, Option, Some, None, Result, Ok, Err, string_bytes}
use Rattle.dds_fields.specs.declared.fault.ReadFault.{ReadFault}
use Rattle.dds_fields.specs.declared.fault.ReadFault.TheVariants.{At, NoMemory}
use Rattle.dds_fields.specs.Reading.{Flaw, Read}

-- the fault is at the place, unless memory ran out
abbrev pub IsAt : ReadFault → Flaw → Type 0
IsAt NoMemory place = Unit {0}
IsAt (At f) place = (f.kind, string_bytes f.path) ≡ place

abbrev pub Fails : {Y : Type 0} → ReadFault → Read Y → Type 0
Fails NoMemory read = Unit {0}
Fails (At f) read = read ≡ Err (f.kind, string_bytes f.path)

-- what a function returned, seen by view, is what reading gives, unless memory ran out
abbrev pub Gives : {X Y : Type 0} → (X → Y) → Result X ReadFault → Read Y → Type 0
Gives view (Ok x) read = read ≡ Ok (view x)
Gives view (Err e) read = Fails e read

-- what is wrong, unless memory ran out
abbrev pub flaw : ReadFault → Option Flaw
flaw NoMemory = None
flaw (At f) = Some (f.kind, string_bytes f.path)

abbrev pub FailsAs : {Y : Type 0} → Option Flaw → Read Y → Type 0
FailsAs None read = Unit {0}
FailsAs (Some p) read = read ≡ Err p

-- the same for a fault type of another crate, whose faults `flaw` reads
abbrev pub Answers : {X Y E : Type 0} → (X → Y) → (E → Option Flaw) → Result X E → Read Y → Type 0
Answers view flaw (Ok x) read = read ≡ Ok (view x)
Answers view flaw (Err e) read = FailsAs (flaw e) read
