-- The section of the connections.
use Rattle.std.specs.Prelude.{codes, ℕ, List, [], ◌∷◌, ◌++◌, not}
use Rattle.toml.specs.Data.{Data, Members}
use Rattle.dds_fields.specs.declared.fault.FaultKind.TheVariants.{Duplicate}
use Rattle.dds_fields.specs.Reading.{◌>>=◌, Read, unless, a_known_name, field, entry, a_section}
use Rattle.dds_base.specs.Section.{Listed}
use Rattle.dds_base.specs.Pairs.{stands}
use Rattle.dds_lists.specs.Lists.{Writer, Reader}

unfoldable pub connection_entry : List ℕ → Data → Read Members
connection_entry path d = entry (codes "writer" ∷ codes "reader" ∷ []) path d

-- one more connection, of a writer and a reader that no earlier one connects
unfoldable pub connection : Listed Writer → Listed Reader → List (ℕ × ℕ) → List ℕ → Data → Read (List (ℕ × ℕ))
connection ws rs before path d = do
  ms ← connection_entry path d
  w ← field (codes "writer") (a_known_name ws.names) path ms
  r ← field (codes "reader") (a_known_name rs.names) path ms
  unless Duplicate path (not (stands before w r)) (before ++ (w, r) ∷ [])

abbrev pub connections : Listed Writer → Listed Reader → Members → Read (List (ℕ × ℕ))
connections ws rs = a_section (codes "connections") 65536 (connection ws rs) []
