-- The participants in XML, each with its writers and then its readers, in file order (OMG DDS-XML 1.0, building block DomainParticipants).
use Rattle.std.specs.Prelude.{codes, ℕ, List, [], ◌++◌, ◌==◌, nat_le, length, slice_get, Option, Some, None, if◌then◌else◌}
use Rattle.std.specs.Fmt.{decimal}
use Rattle.std.specs.Option.{option_map_or}
use Rattle.dds_lists.specs.declared.lists.Joins.{Joins}
use Rattle.dds_lists.specs.declared.lists.Joins.TheVariants.{Before, Any}
use Rattle.dds_lists.specs.Lists.{Lists, Participant, Reader, Writer, keys_at}
use Rattle.dds_text.specs.Names.{name_at, reader_name, writer_name}
use Rattle.dds_text.specs.Texts.{each_below, start_of}
use Rattle.dds_xml.specs.Pieces.{library}

-- a writer, in a publisher of its name, both with the writer's profile
abbrev pub publisher : Lists → List ℕ → Writer → List ℕ
publisher d name x =
    codes "      <publisher name=\"" ++ (name ++ (codes "\">\n        <publisher_qos base_name=\"writers::" ++ (name ++ (codes "\"/>\n        <data_writer name=\"" ++ (name
    ++ (codes "\" topic_ref=\"" ++ (name_at d.topics.names x.topic ++ (codes "\">\n          <datawriter_qos base_name=\"writers::" ++ (name
    ++ codes "\"/>\n        </data_writer>\n      </publisher>\n")))))))))

-- a key of a filter, by its place there
abbrev pub filter_term : List ℕ → ℕ → List ℕ
filter_term key i = start_of [] (codes " OR ") i ++ (codes "key = '" ++ (key ++ codes "'"))

-- the key at this place of a filter
abbrev pub filter_term_at : List (List ℕ) → List ℕ → ℕ → List ℕ
filter_term_at keys filter i = filter_term (option_map_or (name_at keys) (slice_get filter i) []) i

-- a filter as a condition on the key of a sample (OMG DDS 1.4, annex B): one of these keys. No key is empty, so an empty one passes nothing
abbrev pub filter_expression : List (List ℕ) → List ℕ → List ℕ
filter_expression keys filter = if length filter == 0 then codes "key = ''" else each_below (length filter) (filter_term_at keys filter)

-- the filter of a reader (OMG DDS 1.4, clause 2.2.2.3.3). One of all keys is none
abbrev pub content_filter : List ℕ → List (List ℕ) → List ℕ → List ℕ
content_filter name keys filter =
    if nat_le (length keys) (length filter)
    then []
    else codes "          <content_filter name=\"" ++ (name ++ (codes "\">\n            <expression>" ++ (filter_expression keys filter ++ codes "</expression>\n          </content_filter>\n")))

-- a field of the file that has no place in XML, as a comment; nothing where the file has none
abbrev pub span_comment : List ℕ → Option ℕ → List ℕ
span_comment field (Some n) = codes "          <!-- " ++ (field ++ (codes " = " ++ (decimal n ++ codes " -->\n")))
span_comment field None = []

-- how soon after its write a reader takes each sample, and can take it
abbrev pub span_comments : Reader → List ℕ
span_comments x = span_comment (codes "taken_within") x.taken_within ++ span_comment (codes "available_within") x.available_within

-- a reader
abbrev pub data_reader : Lists → List ℕ → Reader → List ℕ
data_reader d name x =
    codes "        <data_reader name=\"" ++ (name ++ (codes "\" topic_ref=\"" ++ (name_at d.topics.names x.topic ++ (codes "\">\n          <datareader_qos base_name=\"readers::" ++ (name
    ++ (codes "\"/>\n" ++ (content_filter name (keys_at d.topics x.topic) x.filter ++ (span_comments x ++ codes "        </data_reader>\n"))))))))

-- a reader, in a subscriber of its name, both with the reader's profile
abbrev pub subscriber : Lists → List ℕ → Reader → List ℕ
subscriber d name x =
    codes "      <subscriber name=\"" ++ (name ++ (codes "\">\n        <subscriber_qos base_name=\"readers::" ++ (name ++ (codes "\"/>\n" ++ (data_reader d name x ++ codes "      </subscriber>\n")))))

-- the writer with this number, if it is at this participant
abbrev pub publisher_at : Lists → ℕ → ℕ → List ℕ
publisher_at d p w = option_map_or (λ (x : Writer). if x.participant == p then publisher d (writer_name d w) x else []) (slice_get d.writers.entries w) []

-- the reader with this number, if it is at this participant
abbrev pub subscriber_at : Lists → ℕ → ℕ → List ℕ
subscriber_at d p r = option_map_or (λ (x : Reader). if x.participant == p then subscriber d (reader_name d r) x else []) (slice_get d.readers.entries r) []

-- the writers of a participant
abbrev pub publishers : Lists → ℕ → List ℕ
publishers d p = each_below (length d.writers.entries) (publisher_at d p)

-- the readers of a participant
abbrev pub subscribers : Lists → ℕ → List ℕ
subscribers d p = each_below (length d.readers.entries) (subscriber_at d p)

-- when a participant comes, as a comment; nothing where it's there before the first write
abbrev pub joins_comment : Joins → List ℕ
joins_comment Before = []
joins_comment Any = codes "      <!-- joins = \"any\" -->\n"

-- a participant with its endpoints, from its number
abbrev pub participant_element : Lists → ℕ → Participant → List ℕ
participant_element d p x =
    codes "    <domain_participant name=\"" ++ (name_at d.participants.names p ++ (codes "\" domain_ref=\"domains::topics\" domain_id=\"" ++ (decimal x.domain ++ (codes "\">\n"
    ++ (joins_comment x.joins ++ (publishers d p ++ (subscribers d p ++ codes "    </domain_participant>\n")))))))

-- the participant with this number
abbrev pub participant_at : Lists → ℕ → List ℕ
participant_at d p = option_map_or (participant_element d p) (slice_get d.participants.entries p) []

-- all participants
unfoldable pub participant_library : Lists → List ℕ
participant_library d = library (codes "domain_participant_library") (codes "participants") (each_below (length d.participants.entries) (participant_at d))
