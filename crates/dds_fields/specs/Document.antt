-- What a document is.
use Rattle.std.specs.Prelude.{ℕ, List, Option, None, if◌then◌else◌}
use Rattle.std.specs.Str.{is_utf8}
use Rattle.dds_base.specs.Names.{is_between}
use Rattle.toml.specs.Data.{Data, Members, as_integer}
use Rattle.toml.specs.Parse.{parse_document}
use Rattle.dds_fields.specs.declared.fault.FaultKind.TheVariants.{WrongKind, WrongVersion}
use Rattle.dds_fields.specs.Reading.{Read, ◌>>=◌, or_fault, unless, natural}

-- the table that the bytes are
unfoldable pub document : List ℕ → Option Members
document bytes = if is_utf8 bytes then parse_document bytes else None

-- a whole number from 1 to the newest version that is read
unfoldable pub version : ℕ → List ℕ → Data → Read ℕ
version newest path d = do
  z ← or_fault WrongKind path (as_integer d)
  n ← or_fault WrongVersion path (natural z)
  unless WrongVersion path (is_between 1 newest n) n
