-- A deployment as it was read, in JSON: every section with its entries in file order, every field of an entry with its value.
use Rattle.std.specs.Prelude.{codes, ℕ, List, [], ◌∷◌, ◌++◌, flat_map, length, slice_get, if◌then◌else◌}
use Rattle.std.specs.List.{range_with_len}
use Rattle.std.specs.Option.{option_map_or}
use Rattle.dds_base.specs.Pairs.{stands}
use Rattle.dds_lists.specs.Lists.{Lists}
use Rattle.dds_text.specs.Names.{name_at, reader_name, writer_name}
use Rattle.dds_text.specs.Texts.{each_below}
use Rattle.dds_show.specs.Entries.{application_entry, connection_entry, participant_entry, reader_entry, rule_entry, topic_entry, writer_entry}
use Rattle.dds_show.specs.Pieces.{line_start}

-- the pairs of the connections, by writer and then by reader
abbrev pub pair_at : Lists → ℕ → ℕ → List (ℕ × ℕ)
pair_at d w r = if stands d.connections w r then (w, r) ∷ [] else []

abbrev pub pairs_of_writer : Lists → ℕ → List (ℕ × ℕ)
pairs_of_writer d w = flat_map (pair_at d w) (range_with_len 0 (length d.readers.entries))

abbrev pub pairs : Lists → List (ℕ × ℕ)
pairs d = flat_map (pairs_of_writer d) (range_with_len 0 (length d.writers.entries))

-- the entry at this place of each section, with what stands before it

abbrev pub participant_item : Lists → ℕ → List ℕ
participant_item d i = line_start i ++ option_map_or (participant_entry (name_at d.participants.names i)) (slice_get d.participants.entries i) []

abbrev pub topic_item : Lists → ℕ → List ℕ
topic_item d i = line_start i ++ option_map_or (topic_entry (name_at d.topics.names i)) (slice_get d.topics.entries i) []

abbrev pub writer_item : Lists → ℕ → List ℕ
writer_item d i = line_start i ++ option_map_or (writer_entry d (writer_name d i)) (slice_get d.writers.entries i) []

abbrev pub reader_item : Lists → ℕ → List ℕ
reader_item d i = line_start i ++ option_map_or (reader_entry d (reader_name d i)) (slice_get d.readers.entries i) []

abbrev pub application_item : Lists → ℕ → List ℕ
application_item d i = line_start i ++ option_map_or (application_entry d (name_at d.applications.names i)) (slice_get d.applications.entries i) []

abbrev pub rule_item : Lists → ℕ → List ℕ
rule_item d i = line_start i ++ option_map_or (rule_entry d (slice_get d.rules.origins i)) (slice_get d.rules.entries i) []

abbrev pub connection_item : Lists → ℕ → List ℕ
connection_item d i = line_start i ++ option_map_or (connection_entry d) (slice_get (pairs d) i) []

-- a section with these entries
abbrev pub section : List ℕ → List ℕ → List ℕ
section name items = codes "  \"" ++ (name ++ (codes "\": [" ++ (items ++ codes "\n  ]")))

abbrev pub participants_section : Lists → List ℕ
participants_section d = section (codes "participants") (each_below (length d.participants.entries) (participant_item d))

abbrev pub topics_section : Lists → List ℕ
topics_section d = section (codes "topics") (each_below (length d.topics.entries) (topic_item d))

abbrev pub writers_section : Lists → List ℕ
writers_section d = section (codes "writers") (each_below (length d.writers.entries) (writer_item d))

abbrev pub readers_section : Lists → List ℕ
readers_section d = section (codes "readers") (each_below (length d.readers.entries) (reader_item d))

abbrev pub applications_section : Lists → List ℕ
applications_section d = section (codes "applications") (each_below (length d.applications.entries) (application_item d))

abbrev pub rules_section : Lists → List ℕ
rules_section d = section (codes "rules") (each_below (length d.rules.entries) (rule_item d))

abbrev pub connections_section : Lists → List ℕ
connections_section d = section (codes "connections") (each_below (length (pairs d)) (connection_item d))

-- the sections of what there is
abbrev pub endpoint_sections : Lists → List ℕ
endpoint_sections d = participants_section d ++ (codes ",\n" ++ (topics_section d ++ (codes ",\n" ++ (writers_section d ++ (codes ",\n" ++ readers_section d)))))

-- the sections of what is done with it
abbrev pub behaviour_sections : Lists → List ℕ
behaviour_sections d = applications_section d ++ (codes ",\n" ++ (rules_section d ++ (codes ",\n" ++ connections_section d)))

-- all sections, in the order of the file's format
abbrev pub deployment_json : Lists → List ℕ
deployment_json d = codes "{\n" ++ (endpoint_sections d ++ (codes ",\n" ++ (behaviour_sections d ++ codes "\n}\n")))
