-- The names that stand for the numbers of endpoints, keys and rules. A number that names nothing has the empty name.
use Rattle.std.specs.Prelude.{ℕ, List, [], unwrap_or, option_map, slice_get}
use Rattle.std.specs.Option.{option_map_or}
use Rattle.dds_lists.specs.Lists.{Lists, Reader, Writer, key_name, keys_at}
use Rattle.dds_lists.specs.declared.lists.Origin.{Origin}
use Rattle.dds_text.specs.Texts.{two_words}

-- the name with this number
abbrev pub name_at : List (List ℕ) → ℕ → List ℕ
name_at names n = unwrap_or (slice_get names n) []

-- the name of a writer
abbrev pub writer_name : Lists → ℕ → List ℕ
writer_name d w = name_at d.writers.names w

-- the name of a reader
abbrev pub reader_name : Lists → ℕ → List ℕ
reader_name d r = name_at d.readers.names r

-- the keys of the topic of the writer with this number
abbrev pub writer_keys : Lists → ℕ → List (List ℕ)
writer_keys d w = unwrap_or (option_map (λ (x : Writer). keys_at d.topics x.topic) (slice_get d.writers.entries w)) []

-- the keys of the topic of the reader with this number
abbrev pub reader_keys : Lists → ℕ → List (List ℕ)
reader_keys d r = unwrap_or (option_map (λ (x : Reader). keys_at d.topics x.topic) (slice_get d.readers.entries r)) []

-- the name of a key of a writer's topic
abbrev pub writer_key : Lists → ℕ → ℕ → List ℕ
writer_key d w k = name_at (writer_keys d w) k

-- the name of a key of a reader's topic
abbrev pub reader_key : Lists → ℕ → ℕ → List ℕ
reader_key d r k = name_at (reader_keys d r) k

-- the name of a rule's entry, and the key where the rule stands for one
abbrev pub origin_text : Lists → Origin → List ℕ
origin_text d o = option_map_or (λ k. two_words (name_at d.rules.names o.name) (key_name d.topics k.0 k.1)) o.key (name_at d.rules.names o.name)

abbrev pub rule_text : Lists → ℕ → List ℕ
rule_text d u = option_map_or (origin_text d) (slice_get d.rules.origins u) []
