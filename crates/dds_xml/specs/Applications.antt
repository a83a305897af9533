-- The applications in XML, each with the endpoints that it owns (OMG DDS-XML 1.0, building block Applications).
use Rattle.std.specs.Prelude.{codes, ℕ, List, [], ◌++◌, flat_map, length, slice_get}
use Rattle.std.specs.Option.{option_map_or}
use Rattle.dds_lists.specs.Lists.{Application, Lists}
use Rattle.dds_text.specs.Names.{name_at}
use Rattle.dds_text.specs.Texts.{each_below}
use Rattle.dds_xml.specs.Pieces.{library}

-- the publisher or the subscriber of the endpoint with this name
abbrev pub owned_element : List ℕ → List ℕ → List ℕ
owned_element group name = codes "        <" ++ (group ++ (codes " name=\"" ++ (name ++ codes "\"/>\n")))

-- the publishers or the subscribers of these endpoints
abbrev pub owned_elements : List ℕ → List (List ℕ) → List ℕ → List ℕ
owned_elements group names numbers = flat_map (λ n. owned_element group (name_at names n)) numbers

-- an application at its participant
abbrev pub application_element : Lists → List ℕ → Application → List ℕ
application_element d name x =
    codes "    <application name=\"" ++ (name ++ (codes "\">\n      <domain_participant name=\"" ++ (name_at d.participants.names x.participant ++ (codes "\" base_name=\"participants::"
    ++ (name_at d.participants.names x.participant ++ (codes "\">\n" ++ (owned_elements (codes "publisher") d.writers.names x.writers
    ++ (owned_elements (codes "subscriber") d.readers.names x.readers ++ codes "      </domain_participant>\n    </application>\n"))))))))

-- the application with this number
abbrev pub application_at : Lists → ℕ → List ℕ
application_at d a = option_map_or (application_element d (name_at d.applications.names a)) (slice_get d.applications.entries a) []

-- all applications
unfoldable pub application_library : Lists → List ℕ
application_library d = library (codes "application_library") (codes "applications") (each_below (length d.applications.entries) (application_at d))
