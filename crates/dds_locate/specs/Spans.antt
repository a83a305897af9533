-- Places of a text, and the lines and columns of them.
use Rattle.std.specs.Prelude.{ℕ, ◌≤◌, ◌+◌, ◌==◌, ◌&&◌, not, nat_le, Bool, List, length, filter, take_while, reverse, count_by}
use Rattle.dds_locate.specs.declared.span.Span.{Span}

-- a stretch of a text of this length
pub record IsWithin (n : ℕ) (span : Span) : Type 0 where
  pub ordered : span.start ≤ span.end
  pub inside : span.end ≤ n

-- the line of the place after these bytes, from 1: one more than the line feeds among them
abbrev pub line_after : List ℕ → ℕ
line_after before = 1 + count_by (λ byte. byte == 10) before

-- a byte that begins a character, as all do but those from 128 to 191 (RFC 3629, section 3)
abbrev pub begins_character : ℕ → Bool
begins_character byte = not (nat_le 128 byte && nat_le byte 191)

-- the column of the place after these bytes, from 1: one more than the characters since the last line feed
abbrev pub column_after : List ℕ → ℕ
column_after before = 1 + length (filter begins_character (take_while (λ byte. not (byte == 10)) (reverse before)))
