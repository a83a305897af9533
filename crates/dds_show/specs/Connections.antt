-- The tables of a deployment file that name exactly the pairs that match.
use Rattle.std.specs.Prelude.{codes, ℕ, List, [], ◌∷◌, ◌++◌, flat_map, length, slice_get, if◌then◌else◌}
use Rattle.std.specs.List.{range_with_len}
use Rattle.std.specs.Option.{option_map_or}
use Rattle.dds_lists.specs.Lists.{Lists}
use Rattle.dds_match.specs.Plan.{matched}
use Rattle.dds_text.specs.Names.{reader_name, writer_name}
use Rattle.dds_text.specs.Texts.{each_below, start_of}

-- the pairs that match, by writer and then by reader, each in file order
abbrev pub pair_at : Lists → ℕ → ℕ → List (ℕ × ℕ)
pair_at d w r = if matched d w r then (w, r) ∷ [] else []

abbrev pub pairs_of_writer : Lists → ℕ → List (ℕ × ℕ)
pairs_of_writer d w = flat_map (pair_at d w) (range_with_len 0 (length d.readers.entries))

abbrev pub matching_pairs : Lists → List (ℕ × ℕ)
matching_pairs d = flat_map (pairs_of_writer d) (range_with_len 0 (length d.writers.entries))

-- the table of a pair
abbrev pub connection_table : Lists → ℕ × ℕ → List ℕ
connection_table d p =
    codes "[[connections]]\nwriter = \"" ++ (writer_name d p.0 ++ (codes "\"\nreader = \"" ++ (reader_name d p.1 ++ codes "\"\n")))

-- the table of the pair at this place, with an empty line before it where it isn't the first
abbrev pub connection_piece : Lists → ℕ → List ℕ
connection_piece d i = start_of [] (codes "\n") i ++ option_map_or (connection_table d) (slice_get (matching_pairs d) i) []

-- the tables of all of them
abbrev pub connections_text : Lists → List ℕ
connections_text d = each_below (length (matching_pairs d)) (connection_piece d)
