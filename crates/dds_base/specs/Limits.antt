-- How much a file may have, beside what the grid of endpoints and keys limits.
use Rattle.std.specs.Prelude.{ℕ}

abbrev pub most_participants : ℕ
most_participants = 64

abbrev pub most_topics : ℕ
most_topics = 256

abbrev pub most_applications : ℕ
most_applications = 64

abbrev pub most_rules : ℕ
most_rules = 256

-- rows of a certificate
abbrev pub most_rows : ℕ
most_rows = 64

-- bytes of a name, and of a partition's
abbrev pub most_name_bytes : ℕ
most_name_bytes = 64

-- bytes of a type's name
abbrev pub most_type_bytes : ℕ
most_type_bytes = 256
