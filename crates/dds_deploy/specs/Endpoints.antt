-- The keys of endpoints, by their names.
use Rattle.std.specs.Prelude.{ℕ, List, Option, Some, None, option_and_then, if◌then◌else◌}
use Rattle.dds_base.specs.Names.{number_of}
use Rattle.dds_base.specs.Section.{Listed}
use Rattle.dds_lists.specs.Lists.{Topic, Writer, Reader, keys_at, has, writer_topic, reader_topic}
use Rattle.dds_lists.specs.WellFormed.{filter_at}

-- the number of the key with this name in the filter of a reader, and in the topic of a writer
abbrev pub key_to_take : Listed Topic → Listed Reader → List ℕ → ℕ → Option ℕ
key_to_take ts rs name r = option_and_then (λ k. if has (filter_at rs r) k then Some k else None) (number_of (keys_at ts (reader_topic rs r)) name)

abbrev pub key_to_write : Listed Topic → Listed Writer → List ℕ → ℕ → Option ℕ
key_to_write ts ws name w = number_of (keys_at ts (writer_topic ws w)) name
