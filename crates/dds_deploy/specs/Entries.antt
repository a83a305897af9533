-- Sections of entries, each under a name that those before it do not have.
use Rattle.std.specs.Prelude.{codes, ℕ, List, Ok}
use Rattle.toml.specs.Data.{Data, Members}
use Rattle.dds_fields.specs.Reading.{◌>>=◌, Read, a_new_name, field, entry}
use Rattle.dds_base.specs.Section.{Listed, and_entry}

-- one more entry: its table, with no other keys than these, its name, and its other fields, after the entries before it
unfoldable pub one_more : {X : Type 0} → (keys : List (List ℕ)) → (Listed X → List ℕ → Members → Read X) → Listed X → List ℕ → Data → Read (Listed X)
one_more keys fields before path d = do
  ms ← entry keys path d
  name ← field (codes "name") (a_new_name before.names) path ms
  x ← fields before path ms
  Ok (and_entry before name x)
