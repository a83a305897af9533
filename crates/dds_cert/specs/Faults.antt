-- What a fault of a certificate says, and the table of its numbers and names.
use Rattle.std.specs.Prelude.{codes, ℕ, List, Option, Some, None, string_bytes}
use Rattle.dds_fields.specs.declared.fault.FaultKind.{FaultKind}
use Rattle.dds_fields.specs.declared.fault.FaultKind.TheVariants as read
use Rattle.dds_fields.specs.Reading.{Flaw}
use Rattle.dds_cert.specs.declared.fault.CertKind.{CertKind}
use Rattle.dds_cert.specs.declared.fault.CertKind.TheVariants.{NotToml, WrongVersion, UnknownKey, MissingKey, WrongKind, OutOfRange, UnknownName, Duplicate, TooMany, BadName}
use Rattle.dds_cert.specs.declared.fault.CertFault.{CertFault}
use Rattle.dds_cert.specs.declared.fault.CertFault.TheVariants.{At, NoMemory}

-- the kind of a reading that it is
abbrev pub kind_of : CertKind → FaultKind
kind_of NotToml = read.NotToml
kind_of WrongVersion = read.WrongVersion
kind_of UnknownKey = read.UnknownKey
kind_of MissingKey = read.MissingKey
kind_of WrongKind = read.WrongKind
kind_of OutOfRange = read.OutOfRange
kind_of UnknownName = read.UnknownName
kind_of Duplicate = read.Duplicate
kind_of TooMany = read.TooMany
kind_of BadName = read.BadName

-- the number and the name that a report gives
abbrev pub kind_entry : CertKind → ℕ × List ℕ
kind_entry NotToml = (1, codes "NotToml")
kind_entry WrongVersion = (2, codes "WrongVersion")
kind_entry UnknownKey = (3, codes "UnknownKey")
kind_entry MissingKey = (4, codes "MissingKey")
kind_entry WrongKind = (5, codes "WrongKind")
kind_entry OutOfRange = (6, codes "OutOfRange")
kind_entry UnknownName = (7, codes "UnknownName")
kind_entry Duplicate = (8, codes "Duplicate")
kind_entry TooMany = (9, codes "TooMany")
kind_entry BadName = (10, codes "BadName")

-- what is wrong and where, unless memory ran out
abbrev pub cert_flaw : CertFault → Option Flaw
cert_flaw NoMemory = None
cert_flaw (At f) = Some (kind_of f.kind, string_bytes f.path)
