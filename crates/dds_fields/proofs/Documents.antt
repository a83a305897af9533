-- Which table the bytes are, by what `toml` answers.
use Rattle.std.proofs.Common.{◌≡◌, ℕ, Bool, true, false, cond, List, Option, Some, None, refl, ap, ◌∙◌}
use Rattle.std.specs.Str.{IsUtf8, is_utf8}
use Rattle.std.proofs.lemmas.Str.{IsUtf8-from_is_utf8, is_utf8-from_IsUtf8}
use Rattle.toml.specs.Data.{Members}
use Rattle.toml.specs.Parse.{parse_document}
use Rattle.dds_fields.specs.Document.{document}

pub document-some : (bytes : List ℕ) (ms : Members) → IsUtf8 bytes → parse_document bytes ≡ Some ms → document bytes ≡ Some ms
unfolding document
document-some bytes ms text parsed = rw (is_utf8-from_IsUtf8 bytes text) parsed

none_by : (bytes : List ℕ) (b : Bool) → is_utf8 bytes ≡ b → (IsUtf8 bytes → parse_document bytes ≡ None) → cond b (parse_document bytes) None ≡ None
none_by bytes true e h = h (IsUtf8-from_is_utf8 bytes e)
none_by bytes false e h = refl

pub document-none : (bytes : List ℕ) → (IsUtf8 bytes → parse_document bytes ≡ None) → document bytes ≡ None
unfolding document
document-none bytes h = none_by bytes (is_utf8 bytes) refl h
