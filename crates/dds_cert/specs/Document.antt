-- The whole certificate file: its head, then its sections in order.
use Rattle.std.specs.Prelude.{codes, ℕ, List, [], ◌∷◌, Ok}
use Rattle.toml.specs.Data.{Members}
use Rattle.dds_fields.specs.declared.fault.FaultKind.TheVariants.{NotToml}
use Rattle.dds_fields.specs.Reading.{◌>>=◌, Read, or_fault, field, only}
use Rattle.dds_fields.specs.Document.{version, document}
use Rattle.dds_lists.specs.Lists.{Lists}
use Rattle.dds_weights.specs.Lists.{Certificate}
use Rattle.dds_cert.specs.Rows.{row_names, rows}
use Rattle.dds_cert.specs.Bounds.{bounds}
use Rattle.dds_cert.specs.Totals.{totals}

-- the version, 1 or 2, and no other keys than these
unfoldable pub head : Members → Read ℕ
head ms = do
  v ← field (codes "version") (version 2) [] ms
  _ ← only (codes "version" ∷ codes "rows" ∷ codes "bounds" ∷ codes "totals" ∷ []) [] ms
  Ok v

unfoldable pub certificate : Lists → Members → Read Certificate
certificate d ms = do
  v ← head ms
  the_rows ← rows v d ms
  the_bounds ← bounds v d (row_names the_rows) ms
  the_totals ← totals d (row_names the_rows) ms
  Ok (record { rows = the_rows; bounds = the_bounds; totals = the_totals })

-- the lists of a certificate file for a deployment with these lists, or its first fault with the kind and the path
unfoldable pub read : Lists → List ℕ → Read Certificate
read d bytes = do
  ms ← or_fault NotToml [] (document bytes)
  certificate d ms
