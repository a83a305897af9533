-- The QoS profiles of the endpoints in XML. Policies and their kinds have the names of the IDL (OMG DDS 1.4, clause 2.3.3).
use Rattle.std.specs.Prelude.{codes, ℕ, List, [], ◌++◌, flat_map, length, slice_get}
use Rattle.std.specs.Fmt.{decimal}
use Rattle.std.specs.Option.{option_map_or}
use Rattle.dds_qos.specs.declared.policies.History.{History}
use Rattle.dds_qos.specs.declared.policies.Liveliness.{Liveliness}
use Rattle.dds_qos.specs.declared.policies.Policies.{Policies}
use Rattle.dds_qos.specs.declared.policies.Presentation.{Presentation}
use Rattle.dds_qos.specs.declared.policies.ResourceLimits.{ResourceLimits}
use Rattle.dds_lists.specs.Lists.{Lists, Reader, Writer}
use Rattle.dds_text.specs.Names.{reader_name, writer_name}
use Rattle.dds_text.specs.Texts.{each_below}
use Rattle.dds_text.specs.Words.{flag_word, access_scope_word, destination_order_word, durability_word, history_word, liveliness_word, ownership_word, reliability_word}
use Rattle.dds_xml.specs.Pieces.{duration_element, library, limit_element}

-- a policy that is a kind and nothing else: its element, the word of the kind, and the word for the policy that ends the kind's name
abbrev pub kind_element : List ℕ → List ℕ → List ℕ → List ℕ
kind_element policy kind suffix =
    codes "        <" ++ (policy ++ (codes ">\n          <kind>" ++ (kind ++ (codes "_" ++ (suffix ++ (codes "_QOS</kind>\n        </" ++ (policy ++ codes ">\n")))))))

-- what is said of the past and of time: durability, deadline and latency budget (OMG DDS 1.4, clauses 2.2.3.4, 2.2.3.7 and 2.2.3.8)
abbrev pub timing_elements : Policies → List ℕ
timing_elements p =
    kind_element (codes "durability") (durability_word p.durability) (codes "DURABILITY") ++ (codes "        <deadline>\n" ++ (duration_element (codes "period") p.deadline
    ++ (codes "        </deadline>\n        <latency_budget>\n" ++ (duration_element (codes "duration") p.latency_budget ++ codes "        </latency_budget>\n"))))

-- who asserts that a writer is alive, and how often (OMG DDS 1.4, clause 2.2.3.11)
abbrev pub liveliness_element : Liveliness → List ℕ
liveliness_element x =
    codes "        <liveliness>\n          <kind>" ++ (liveliness_word x.kind ++ (codes "_LIVELINESS_QOS</kind>\n" ++ (duration_element (codes "lease_duration") x.lease
    ++ codes "        </liveliness>\n")))

-- what is said of who writes and how samples come: ownership, liveliness, reliability and destination order (OMG DDS 1.4, clauses 2.2.3.9, 2.2.3.11, 2.2.3.14 and 2.2.3.17)
abbrev pub delivery_elements : Policies → List ℕ
delivery_elements p =
    kind_element (codes "ownership") (ownership_word p.ownership) (codes "OWNERSHIP") ++ (liveliness_element p.liveliness
    ++ (kind_element (codes "reliability") (reliability_word p.reliability) (codes "RELIABILITY")
    ++ kind_element (codes "destination_order") (destination_order_word p.destination_order) (codes "DESTINATIONORDER")))

-- which samples of an instance stay (OMG DDS 1.4, clause 2.2.3.18)
abbrev pub history_element : History → List ℕ
history_element x =
    codes "        <history>\n          <kind>" ++ (history_word x.kind ++ (codes "_HISTORY_QOS</kind>\n          <depth>" ++ (decimal x.depth ++ codes "</depth>\n        </history>\n")))

-- how much may be kept (OMG DDS 1.4, clause 2.2.3.19)
abbrev pub limits_element : ResourceLimits → List ℕ
limits_element x =
    codes "        <resource_limits>\n" ++ (limit_element (codes "max_samples") x.max_samples ++ (limit_element (codes "max_instances") x.max_instances
    ++ (limit_element (codes "max_samples_per_instance") x.max_samples_per_instance ++ codes "        </resource_limits>\n")))

-- the policies of a writer or a reader
abbrev pub endpoint_elements : Policies → List ℕ
endpoint_elements p = timing_elements p ++ (delivery_elements p ++ (history_element p.history ++ limits_element p.resource_limits))

-- how changes hang together (OMG DDS 1.4, clause 2.2.3.6)
abbrev pub presentation_element : Presentation → List ℕ
presentation_element x =
    codes "        <presentation>\n          <access_scope>" ++ (access_scope_word x.access_scope ++ (codes "_PRESENTATION_QOS</access_scope>\n          <coherent_access>" ++ (flag_word x.coherent
    ++ (codes "</coherent_access>\n          <ordered_access>" ++ (flag_word x.ordered ++ codes "</ordered_access>\n        </presentation>\n")))))

-- the name of a partition
abbrev pub partition_name : List ℕ → List ℕ
partition_name name = codes "            <element>" ++ (name ++ codes "</element>\n")

-- the names of partitions (OMG DDS 1.4, clause 2.2.3.13)
abbrev pub partition_element : List (List ℕ) → List ℕ
partition_element names = codes "        <partition>\n          <name>\n" ++ (flat_map partition_name names ++ codes "          </name>\n        </partition>\n")

-- the policies of a publisher or a subscriber
abbrev pub group_elements : Policies → List (List ℕ) → List ℕ
group_elements p partitions = presentation_element p.presentation ++ partition_element partitions

-- policies under the name of what they are of
abbrev pub qos_element : List ℕ → List ℕ → List ℕ
qos_element name policies = codes "      <" ++ (name ++ (codes ">\n" ++ (policies ++ (codes "      </" ++ (name ++ codes ">\n")))))

-- the profile of an endpoint: its own policies, and those of its publisher or subscriber
abbrev pub profile : List ℕ → List ℕ → List ℕ → Policies → List (List ℕ) → List ℕ
profile entity group name p partitions =
    codes "    <qos_profile name=\"" ++ (name ++ (codes "\">\n" ++ (qos_element entity (endpoint_elements p) ++ (qos_element group (group_elements p partitions) ++ codes "    </qos_profile>\n"))))

-- the profile of a writer
abbrev pub writer_profile : List ℕ → Writer → List ℕ
writer_profile name x = profile (codes "datawriter_qos") (codes "publisher_qos") name x.qos.offered x.partitions

-- the profile of a reader
abbrev pub reader_profile : List ℕ → Reader → List ℕ
reader_profile name x = profile (codes "datareader_qos") (codes "subscriber_qos") name x.qos.requested x.partitions

-- the profile of the writer with this number
abbrev pub writer_profile_at : Lists → ℕ → List ℕ
writer_profile_at d w = option_map_or (writer_profile (writer_name d w)) (slice_get d.writers.entries w) []

-- the profile of the reader with this number
abbrev pub reader_profile_at : Lists → ℕ → List ℕ
reader_profile_at d r = option_map_or (reader_profile (reader_name d r)) (slice_get d.readers.entries r) []

-- the profiles of all writers
unfoldable pub writer_library : Lists → List ℕ
writer_library d = library (codes "qos_library") (codes "writers") (each_below (length d.writers.entries) (writer_profile_at d))

-- the profiles of all readers
unfoldable pub reader_library : Lists → List ℕ
reader_library d = library (codes "qos_library") (codes "readers") (each_below (length d.readers.entries) (reader_profile_at d))
