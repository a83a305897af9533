-- The text of a document.
use Rattle.std.specs.Prelude.{ℕ, List, ◌++◌, codes}
use Rattle.serde_json.specs.Data.{Data}
use Rattle.serde_json.specs.Written.{compact_text}

-- the text of a document, on a line of its own (RFC 8259, without blanks)
unfoldable pub line_of : Data → List ℕ
line_of document = compact_text document ++ codes "\n"
