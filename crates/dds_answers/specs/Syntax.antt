-- What the parser of TOML says of a text that it refuses.
use Rattle.std.specs.Prelude.{ℕ, ◌≡◌, ◌≤◌, ◌+◌, ◌==◌, Bool, true, false, not, List, length, take, filter, take_while, reverse, count_by, Option, Some, None, IsSome}
use Rattle.dds_base.specs.Names.{is_between}
use Rattle.dds_fields.specs.Document.{document}
use Rattle.dds_fields.specs.declared.fault.FaultKind.{FaultKind}
use Rattle.dds_fields.specs.declared.fault.FaultKind.TheVariants.{NotToml}
use Rattle.dds_cert.specs.Faults.{kind_of}
use Rattle.dds_answers.specs.declared.fault.ToolFault.{ToolFault}
use Rattle.dds_answers.specs.declared.fault.ToolFault.TheVariants as fault
use Rattle.dds_options.specs.declared.detail.Detail.{Detail}
use Rattle.dds_options.specs.declared.detail.Detail.TheVariants.{Plain, Explained}
use Rattle.dds_answers.specs.declared.syntax.SyntaxError.{SyntaxError}

-- the line of the place after these bytes, from 1: one more than the line feeds among them
abbrev pub line_after : List ℕ → ℕ
line_after before = 1 + count_by (λ byte. byte == 10) before

-- a byte that begins a character, as all do but those from 128 to 191 (RFC 3629, section 3)
abbrev pub begins_character : ℕ → Bool
begins_character byte = not (is_between 128 191 byte)

-- the column of the place after these bytes, from 1: one more than the characters since the last line feed
abbrev pub column_after : List ℕ → ℕ
column_after before = 1 + length (filter begins_character (take_while (λ byte. not (byte == 10)) (reverse before)))

-- the line and the column point at a place of the text
abbrev pub IsPlaced : List ℕ → SyntaxError → Type 0
IsPlaced bytes error = (n : ℕ) × (n ≤ length bytes) × (error.line ≡ line_after (take n bytes)) × (error.column ≡ column_after (take n bytes))

-- the bytes are no document, and it is said of a place of theirs why; or they are one, and nothing is said
abbrev pub IsSyntaxOf : List ℕ → Option SyntaxError → Type 0
IsSyntaxOf bytes None = IsSome (document bytes)
IsSyntaxOf bytes (Some error) = (document bytes ≡ None) × IsPlaced bytes error

-- what is reported of the syntax of a file: what the parser says of its bytes where a reason is asked for and they were no TOML, else nothing
abbrev pub IsSyntaxTold : Detail → (is_not_toml : Bool) → List ℕ → Option SyntaxError → Type 0
IsSyntaxTold Plain is_not_toml bytes syntax = syntax ≡ None
IsSyntaxTold Explained false bytes syntax = syntax ≡ None
IsSyntaxTold Explained true bytes syntax = IsSyntaxOf bytes syntax

-- the flaw is that the bytes are no TOML
abbrev pub is_not_toml : FaultKind → Bool
is_not_toml NotToml = true
is_not_toml kind = false

-- what a fault of a check says about the syntax of the deployment or of the certificate
abbrev pub IsFaultTold : Detail → (d c : List ℕ) → ToolFault → Type 0
IsFaultTold detail d c (fault.Deployment flaw syntax) = IsSyntaxTold detail (is_not_toml flaw.kind) d syntax
IsFaultTold detail d c (fault.Certificate flaw syntax) = IsSyntaxTold detail (is_not_toml (kind_of flaw.kind)) c syntax
IsFaultTold detail d c e = Unit {0}
