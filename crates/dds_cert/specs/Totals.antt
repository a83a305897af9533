-- The section of the totals.
use Rattle.std.specs.Prelude.{codes, ℕ, List, [], ◌∷◌, ◌++◌, not}
use Rattle.toml.specs.Data.{Data, Members}
use Rattle.dds_base.specs.Grid.{most_endpoints}
use Rattle.dds_fields.specs.declared.fault.FaultKind.TheVariants.{Duplicate}
use Rattle.dds_fields.specs.Reading.{◌>>=◌, Read, unless, a_known_name, field, entry, a_section}
use Rattle.dds_lists.specs.Lists.{Lists}
use Rattle.dds_weights.specs.declared.certificate.Total.{Total}
use Rattle.dds_weights.specs.Named.{has_total}
use Rattle.dds_cert.specs.Bounds.{row_and_bound}

unfoldable pub total_entry : List ℕ → Data → Read Members
total_entry path x = entry (codes "reader" ∷ codes "row" ∷ codes "bound" ∷ []) path x

-- one more total, of a reader that these do not name
unfoldable pub total : Lists → List (List ℕ) → List Total → List ℕ → Data → Read (List Total)
total d names before path x = do
  ms ← total_entry path x
  r ← field (codes "reader") (a_known_name d.readers.names) path ms
  b ← row_and_bound names path ms
  unless Duplicate path (not (has_total before r)) (before ++ record { reader = r; row = b.0; bound = b.1 } ∷ [])

abbrev pub totals : Lists → List (List ℕ) → Members → Read (List Total)
totals d names = a_section (codes "totals") most_endpoints (total d names) []
