-- The text of a place.
use Rattle.std.specs.Prelude.{ℕ, List, []}
use Rattle.dds_fields.specs.Paths.{key_path, index_path}
use Rattle.dds_fields.specs.declared.place.Place.{Place, Root, Key', Index'}

abbrev pub place_text : Place → List ℕ
place_text Root = []
place_text (Key' p parent key) = key_path (place_text parent) key.now
place_text (Index' p parent i) = index_path (place_text parent) i
