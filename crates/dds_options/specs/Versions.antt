-- The versions of deployment files that a file of an earlier one can be turned into.
use Rattle.std.specs.Prelude.{ℕ}
use Rattle.dds_options.specs.declared.versions.LaterVersion.{LaterVersion}
use Rattle.dds_options.specs.declared.versions.LaterVersion.TheVariants.{Second, Third, Fourth}

-- the number that a file of this version has
abbrev pub version_number : LaterVersion → ℕ
version_number Second = 2
version_number Third = 3
version_number Fourth = 4
