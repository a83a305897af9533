-- Which kinds of fault a reading can give.
use Rattle.std.specs.Prelude.{◌≡◌, Bool, true, false, Ok, Err}
use Rattle.dds_fields.specs.declared.fault.FaultKind.{FaultKind}
use Rattle.dds_fields.specs.declared.fault.FaultKind.TheVariants.{Qos, EndpointOwner, RuleEntry, NotToml, WrongVersion, UnknownKey, MissingKey, WrongKind, OutOfRange, Duplicate, UnknownName, BadName, TooMany}
use Rattle.dds_fields.specs.declared.fault.ReadFault.{ReadFault}
use Rattle.dds_fields.specs.declared.fault.ReadFault.TheVariants.{At, NoMemory}
use Rattle.dds_fields.specs.Reading.{Read}

-- a kind that a certificate can have too
abbrev pub is_common : FaultKind → Bool
is_common Qos = false
is_common EndpointOwner = false
is_common RuleEntry = false
is_common _ = true

abbrev pub FaultsAre : {A : Type 0} → (FaultKind → Bool) → Read A → Type 0
FaultsAre ok (Ok x) = Unit {0}
FaultsAre ok (Err f) = ok f.0 ≡ true

abbrev pub IsCommon : ReadFault → Type 0
IsCommon NoMemory = Unit {0}
IsCommon (At f) = is_common f.kind ≡ true
