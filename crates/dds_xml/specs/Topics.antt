-- The domain library in XML: one domain, with the registered types and the topics (OMG DDS-XML 1.0, building block Domains).
use Rattle.std.specs.Prelude.{codes, ℕ, List, [], ◌++◌, length, slice_get}
use Rattle.std.specs.Option.{option_map_or}
use Rattle.dds_lists.specs.Lists.{Lists, Topic}
use Rattle.dds_text.specs.Names.{name_at}
use Rattle.dds_text.specs.Texts.{each_below}

-- the type of a topic, by its module
abbrev pub type_ref : List ℕ → Topic → List ℕ
type_ref name x = name ++ (codes "::" ++ x.type_name)

-- the type of a topic, registered under that same name
abbrev pub register_type : List ℕ → Topic → List ℕ
register_type name x = codes "      <register_type name=\"" ++ (type_ref name x ++ (codes "\" type_ref=\"" ++ (type_ref name x ++ codes "\"/>\n")))

-- a topic with its registered type
abbrev pub topic_element : List ℕ → Topic → List ℕ
topic_element name x = codes "      <topic name=\"" ++ (name ++ (codes "\" register_type_ref=\"" ++ (type_ref name x ++ codes "\"/>\n")))

-- the registered type of the topic with this number
abbrev pub register_type_at : Lists → ℕ → List ℕ
register_type_at d t = option_map_or (register_type (name_at d.topics.names t)) (slice_get d.topics.entries t) []

-- the topic with this number
abbrev pub topic_at : Lists → ℕ → List ℕ
topic_at d t = option_map_or (topic_element (name_at d.topics.names t)) (slice_get d.topics.entries t) []

-- the registered types of all topics
abbrev pub register_types : Lists → List ℕ
register_types d = each_below (length d.topics.entries) (register_type_at d)

-- all topics
abbrev pub topics : Lists → List ℕ
topics d = each_below (length d.topics.entries) (topic_at d)

-- the domain library: all types, then all topics
unfoldable pub domain_library : Lists → List ℕ
domain_library d =
    codes "  <domain_library name=\"domains\">\n    <domain name=\"topics\">\n" ++ (register_types d ++ (topics d ++ codes "    </domain>\n  </domain_library>\n"))
