-- The numbers and the words that users see for a document's faults.
use Rattle.std.specs.Prelude.{ℕ, List, codes}
use Rattle.dds_fields.specs.declared.fault.FaultKind.{FaultKind}
use Rattle.dds_fields.specs.declared.fault.FaultKind.TheVariants.{NotToml, WrongVersion, UnknownKey, MissingKey, WrongKind, OutOfRange, Duplicate, UnknownName, BadName, Qos, TooMany, EndpointOwner, RuleEntry}

-- the number of each kind
abbrev pub number_of : FaultKind → ℕ
number_of NotToml = 1
number_of WrongVersion = 2
number_of UnknownKey = 3
number_of MissingKey = 4
number_of WrongKind = 5
number_of OutOfRange = 6
number_of Duplicate = 7
number_of UnknownName = 8
number_of BadName = 9
number_of Qos = 10
number_of TooMany = 11
number_of EndpointOwner = 12
number_of RuleEntry = 13

-- the word of each kind
abbrev pub name_of : FaultKind → List ℕ
name_of NotToml = codes "NotToml"
name_of WrongVersion = codes "WrongVersion"
name_of UnknownKey = codes "UnknownKey"
name_of MissingKey = codes "MissingKey"
name_of WrongKind = codes "WrongKind"
name_of OutOfRange = codes "OutOfRange"
name_of Duplicate = codes "Duplicate"
name_of UnknownName = codes "UnknownName"
name_of BadName = codes "BadName"
name_of Qos = codes "Qos"
name_of TooMany = codes "TooMany"
name_of EndpointOwner = codes "EndpointOwner"
name_of RuleEntry = codes "RuleEntry"
