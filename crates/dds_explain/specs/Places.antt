-- Where a writer and a reader are that don't meet: their domains, their topics and their partitions (OMG DDS 1.4, clause 2.2.3).
use Rattle.std.specs.Prelude.{codes, ℕ, List, [], ◌++◌, slice_get}
use Rattle.std.specs.Fmt.{decimal}
use Rattle.std.specs.Option.{option_map_or}
use Rattle.dds_lists.specs.Lists.{Lists, Reader, Writer}
use Rattle.dds_match.specs.Matching.{domain_at}
use Rattle.dds_show.specs.Pieces.{name_items}
use Rattle.dds_text.specs.Names.{name_at, reader_name, writer_name}

-- the domain of the participant of a writer, and of a reader: 0 where there is no such endpoint
abbrev pub writer_domain : Lists → ℕ → ℕ
writer_domain d w = option_map_or (λ (x : Writer). domain_at d x.participant) (slice_get d.writers.entries w) 0

abbrev pub reader_domain : Lists → ℕ → ℕ
reader_domain d r = option_map_or (λ (x : Reader). domain_at d x.participant) (slice_get d.readers.entries r) 0

-- the domain of each
abbrev pub domain_line : Lists → ℕ → ℕ → List ℕ
domain_line d w r =
    codes "  domain: " ++ (writer_name d w ++ (codes " is in " ++ (decimal (writer_domain d w)
    ++ (codes ", " ++ (reader_name d r ++ (codes " in " ++ (decimal (reader_domain d r) ++ codes "\n")))))))

-- the name of the topic that a writer writes, and of the one that a reader reads: empty where there is no such endpoint
abbrev pub writer_topic_name : Lists → ℕ → List ℕ
writer_topic_name d w = option_map_or (λ (x : Writer). name_at d.topics.names x.topic) (slice_get d.writers.entries w) []

abbrev pub reader_topic_name : Lists → ℕ → List ℕ
reader_topic_name d r = option_map_or (λ (x : Reader). name_at d.topics.names x.topic) (slice_get d.readers.entries r) []

-- the topic of each
abbrev pub topic_line : Lists → ℕ → ℕ → List ℕ
topic_line d w r =
    codes "  topic: " ++ (writer_name d w ++ (codes " writes " ++ (writer_topic_name d w
    ++ (codes ", " ++ (reader_name d r ++ (codes " reads " ++ (reader_topic_name d r ++ codes "\n")))))))

-- the partitions of a writer, and of a reader, in the order of the file: none where there is no such endpoint
abbrev pub writer_partitions : Lists → ℕ → List (List ℕ)
writer_partitions d w = option_map_or (λ (x : Writer). x.partitions) (slice_get d.writers.entries w) []

abbrev pub reader_partitions : Lists → ℕ → List (List ℕ)
reader_partitions d r = option_map_or (λ (x : Reader). x.partitions) (slice_get d.readers.entries r) []

-- the partitions of each, as a file has them: names in quotes with commas between them, in brackets
abbrev pub partitions_line : Lists → ℕ → ℕ → List ℕ
partitions_line d w r =
    codes "  partitions: " ++ (writer_name d w ++ (codes " has [" ++ (name_items (writer_partitions d w)
    ++ (codes "], " ++ (reader_name d r ++ (codes " has [" ++ (name_items (reader_partitions d r) ++ codes "]\n")))))))
