-- The names of a certificate's rows.
use Rattle.std.specs.Prelude.{ℕ, List, [], unwrap_or, option_map, slice_get}
use Rattle.dds_weights.specs.Lists.{Certificate, Row}

-- the name of a row, empty where there is none with this number
abbrev pub row_name : Certificate → ℕ → List ℕ
row_name c n = unwrap_or (option_map (λ (x : Row). x.name) (slice_get c.rows n)) []
