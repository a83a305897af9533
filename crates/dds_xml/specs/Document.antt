-- A deployment in DDS-XML (OMG DDS-XML 1.0).
use Rattle.std.specs.Prelude.{codes, ℕ, List, ◌++◌}
use Rattle.dds_lists.specs.Lists.{Lists}
use Rattle.dds_xml.specs.Applications.{application_library}
use Rattle.dds_xml.specs.Participants.{participant_library}
use Rattle.dds_xml.specs.Profiles.{reader_library, writer_library}
use Rattle.dds_xml.specs.Topics.{domain_library}
use Rattle.dds_xml.specs.Types.{types_section}

-- what stands before the sections
abbrev pub heading : List ℕ
heading =
    codes "<?xml version=\"1.0\" encoding=\"UTF-8\"?>\n<dds xmlns=\"http://www.omg.org/spec/DDS-XML\">\n  <!-- Rules and connections have no place in DDS-XML and are left out. The enum of a module lists the keys of its topic. -->\n"

-- what endpoints use: the types of topics, and a QoS profile for each endpoint
abbrev pub profile_sections : Lists → List ℕ
profile_sections d = types_section d ++ (writer_library d ++ reader_library d)

-- what there is: topics, participants with their endpoints, and applications
abbrev pub entity_sections : Lists → List ℕ
entity_sections d = domain_library d ++ (participant_library d ++ application_library d)

-- a deployment: what endpoints use, then what there is
unfoldable pub deployment_xml : Lists → List ℕ
deployment_xml d = heading ++ (profile_sections d ++ (entity_sections d ++ codes "</dds>\n"))
