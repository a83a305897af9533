-- The section of the rows.
use Rattle.std.specs.Prelude.{codes, ℕ, List, [], ◌∷◌, ◌++◌, Ok, map}
use Rattle.toml.specs.Data.{Data, Members}
use Rattle.dds_base.specs.Limits.{most_rows}
use Rattle.dds_fields.specs.Reading.{◌>>=◌, Read, a_new_name, field, optional, entry, a_section}
use Rattle.dds_fields.specs.Document.{version}
use Rattle.dds_lists.specs.Lists.{Lists}
use Rattle.dds_weights.specs.Lists.{Row}
use Rattle.dds_weights.specs.Order.{in_order}
use Rattle.dds_cert.specs.Weights.{reader_weights, writer_weights}

abbrev pub row_names : List Row → List (List ℕ)
row_names rows = map (λ r. r.name) rows

unfoldable pub row_entry : List ℕ → Data → Read Members
row_entry path x = entry (codes "name" ∷ codes "samples" ∷ codes "takes" ∷ codes "permits" ∷ []) path x

-- the lists of a row with this name, each in the order of endpoints and then of keys. An absent list is empty
unfoldable pub row_lists : ℕ → Lists → List ℕ → List ℕ → Members → Read Row
row_lists version d name path ms = do
  the_samples ← optional (codes "samples") [] (reader_weights version d) path ms
  the_takes ← optional (codes "takes") [] (reader_weights version d) path ms
  the_permits ← optional (codes "permits") [] (writer_weights version d) path ms
  Ok (record { name = name; samples = in_order (λ r. r) the_samples; takes = in_order (λ r. r) the_takes; permits = in_order (λ w. w) the_permits })

-- one more row, under a name that these do not have
unfoldable pub row : ℕ → Lists → List Row → List ℕ → Data → Read (List Row)
row version d before path x = do
  ms ← row_entry path x
  name ← field (codes "name") (a_new_name (row_names before)) path ms
  lists ← row_lists version d name path ms
  Ok (before ++ lists ∷ [])

abbrev pub rows : ℕ → Lists → Members → Read (List Row)
rows version d = a_section (codes "rows") most_rows (row version d) []
