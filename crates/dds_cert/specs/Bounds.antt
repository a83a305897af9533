-- The section of the bounds, and the fields that bounds and totals share.
use Rattle.std.specs.Prelude.{codes, ℕ, List, [], ◌∷◌, Ok, map}
use Rattle.toml.specs.Data.{Data, Members}
use Rattle.dds_base.specs.Grid.{most_places}
use Rattle.dds_fields.specs.Reading.{◌>>=◌, Read, a_number, a_known_name, field, entry, a_section}
use Rattle.dds_fields.specs.Document.{version}
use Rattle.dds_lists.specs.Lists.{Lists}
use Rattle.dds_weights.specs.declared.certificate.Bound.{Bound}
use Rattle.dds_weights.specs.Named.{bound_place}
use Rattle.dds_cert.specs.Keys.{reader_and_keys}
use Rattle.dds_cert.specs.Adding.{and_more, any_stands}

unfoldable pub bound_number : List ℕ → Members → Read ℕ
bound_number path ms = field (codes "bound") (a_number 0 4294967295) path ms

unfoldable pub bound_entry : List ℕ → Data → Read Members
bound_entry path x = entry (codes "reader" ∷ codes "key" ∷ codes "row" ∷ codes "bound" ∷ []) path x

-- the row by its name, then the number that it shows
unfoldable pub row_and_bound : List (List ℕ) → List ℕ → Members → Read (ℕ × ℕ)
row_and_bound names path ms = do
  m ← field (codes "row") (a_known_name names) path ms
  n ← bound_number path ms
  Ok (m, n)

-- the same bound for each of the keys
abbrev pub bounds_of : ℕ × List ℕ → ℕ × ℕ → List Bound
bounds_of e b = map (λ k. record { reader = e.0; key = k; row = b.0; bound = b.1 }) e.1

-- the bounds of one more entry, of a reader and keys that these do not name
unfoldable pub bound : ℕ → Lists → List (List ℕ) → (list : List ℕ) → List Bound → List ℕ → Data → Read (List Bound)
bound version d names list before path x = do
  ms ← bound_entry path x
  e ← reader_and_keys version d path ms
  b ← row_and_bound names path ms
  and_more list path (any_stands (map bound_place before) e.0 e.1) before (bounds_of e b)

abbrev pub bounds : ℕ → Lists → List (List ℕ) → Members → Read (List Bound)
bounds version d names = a_section (codes "bounds") most_places (bound version d names (codes "bounds")) []
