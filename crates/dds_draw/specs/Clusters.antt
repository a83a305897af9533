-- Participants and applications as clusters of a picture, in DOT.
use Rattle.std.specs.Prelude.{codes, ℕ, List, [], ◌++◌, ◌==◌, flat_map, length, slice_get, Option, if◌then◌else◌}
use Rattle.std.specs.Fmt.{decimal}
use Rattle.std.specs.Option.{option_map_or}
use Rattle.dds_lists.specs.declared.lists.Joins.{Joins}
use Rattle.dds_lists.specs.declared.lists.Joins.TheVariants.{Before, Any}
use Rattle.dds_lists.specs.Lists.{Application, Lists, Participant, Reader, Rule, Writer}
use Rattle.dds_weights.specs.Lists.{Certificate}
use Rattle.dds_text.specs.Names.{name_at}
use Rattle.dds_text.specs.Texts.{each_below}
use Rattle.dds_draw.specs.Nodes.{reader_node, rule_node, writer_node}

-- the name of the node of an endpoint: its side, writer or reader, and its own name
abbrev pub endpoint_name : List ℕ → List ℕ → List ℕ
endpoint_name side name = codes "      \"" ++ (side ++ (codes " " ++ (name ++ codes "\";\n")))

-- the names of the nodes of endpoints
abbrev pub endpoint_names : List ℕ → List (List ℕ) → List ℕ → List ℕ
endpoint_names side names numbers = flat_map (λ n. endpoint_name side (name_at names n)) numbers

-- the rule with this number, if it is one of the application
abbrev pub rule_at : Lists → ℕ → ℕ → List ℕ
rule_at d a u = option_map_or (λ (x : Rule). if x.application == a then rule_node d u x else []) (slice_get d.rules.entries u) []

-- the names of an application's writers and readers, in its order, and its rules
unfoldable pub application_members : Lists → ℕ → Application → List ℕ
application_members d a x =
    endpoint_names (codes "writer") d.writers.names x.writers
    ++ (endpoint_names (codes "reader") d.readers.names x.readers ++ each_below (length d.rules.entries) (rule_at d a))

-- the cluster of the application with this number
unfoldable pub application_cluster : Lists → ℕ → Application → List ℕ
application_cluster d a x =
    codes "    subgraph \"cluster application "
    ++ (name_at d.applications.names a
    ++ (codes "\" {\n      label=\"" ++ (name_at d.applications.names a ++ (codes "\";\n      style=rounded;\n" ++ (application_members d a x ++ codes "    }\n")))))

-- the application with this number, if it is at the participant
abbrev pub application_at : Lists → ℕ → ℕ → List ℕ
application_at d p a = option_map_or (λ (x : Application). if x.participant == p then application_cluster d a x else []) (slice_get d.applications.entries a) []

-- the writer with this number, if it is at the participant
abbrev pub writer_at : Lists → ℕ → ℕ → List ℕ
writer_at d p w = option_map_or (λ (x : Writer). if x.participant == p then writer_node d w x else []) (slice_get d.writers.entries w) []

-- the reader with this number, if it is at the participant
abbrev pub reader_at : Lists → Option Certificate → ℕ → ℕ → List ℕ
reader_at d c p r = option_map_or (λ (x : Reader). if x.participant == p then reader_node d c r x else []) (slice_get d.readers.entries r) []

-- the applications, writers and readers of a participant, each in file order
unfoldable pub participant_members : Lists → Option Certificate → ℕ → List ℕ
participant_members d c p =
    each_below (length d.applications.entries) (application_at d p)
    ++ (each_below (length d.writers.entries) (writer_at d p) ++ each_below (length d.readers.entries) (reader_at d c p))

-- the border of a participant: dashed where it may come at any time
abbrev pub border : Joins → List ℕ
border Before = []
border Any = codes "    style=dashed;\n"

-- the cluster of the participant with this number
unfoldable pub participant_cluster : Lists → Option Certificate → ℕ → Participant → List ℕ
participant_cluster d c p x =
    codes "  subgraph \"cluster participant "
    ++ (name_at d.participants.names p
    ++ (codes "\" {\n    label=\""
    ++ (name_at d.participants.names p ++ (codes ", domain " ++ (decimal x.domain ++ (codes "\";\n" ++ (border x.joins ++ (participant_members d c p ++ codes "  }\n"))))))))

-- the cluster of the participant with this number, if it is there
abbrev pub participant_at : Lists → Option Certificate → ℕ → List ℕ
participant_at d c p = option_map_or (participant_cluster d c p) (slice_get d.participants.entries p) []

-- the clusters of all participants, in file order
unfoldable pub participant_clusters : Lists → Option Certificate → List ℕ
participant_clusters d c = each_below (length d.participants.entries) (participant_at d c)
