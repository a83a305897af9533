-- Findings as documents.
use Rattle.std.specs.Prelude.{ℕ, Bool, List, [], ◌∷◌, ◌++◌, codes, flat_map, if◌then◌else◌, map, String, string_bytes}
use Rattle.std.specs.declared.alloc.Global.{Global}
use Rattle.serde_json.specs.Data.{Data, array, boolean, member, no_members, number, object, string, unsigned}
use Rattle.serde_json.specs.View.{items_of}
use Rattle.percent_encoding.specs.Percent.{percent_encode}
use Rattle.dds_json.specs.Matching.{answer_word}
use Rattle.dds_findings.specs.Blocks.{FileNames, errors_of, file_name, notes_of}
use Rattle.dds_findings.specs.Findings.{is_denied, is_passed, level_of, level_word}
use Rattle.dds_options.specs.declared.deny.Deny.{Deny}
use Rattle.dds_findings.specs.declared.finding.Finding.{Finding}
use Rattle.dds_findings.specs.declared.sarif.TheConstants.{ESCAPED}

-- ── JSON
-- where a finding is
abbrev pub place_document : FileNames → Finding → Data
place_document names f =
    object (member (codes "column") (number (unsigned f.spot.column)) (member (codes "end_column") (number (unsigned f.spot.end))
    (member (codes "file") (string (file_name names f.role)) (member (codes "line") (number (unsigned f.spot.line)) (member (codes "path") (string (string_bytes f.path)) no_members)))))

-- what would be right, and the terms of its numbers
abbrev pub explanation_document : Finding → Data
explanation_document f =
    object (member (codes "details") (array (items_of (map (λ detail. string (string_bytes detail)) f.details.items))) (member (codes "help") (string (string_bytes f.help)) no_members))

-- a finding, and whether it makes the answer no
abbrev pub finding_document : FileNames → Deny → Finding → Data
finding_document names denied f =
    object (member (codes "denied") (boolean (is_denied denied f)) (member (codes "explanation") (explanation_document f) (member (codes "level") (string (level_word (level_of f.about)))
    (member (codes "message") (string (string_bytes f.message)) (member (codes "name") (string f.name.now) (member (codes "place") (place_document names f)
    (member (codes "subject") (string (string_bytes f.subject)) no_members)))))))

-- all of them, and how many there are
abbrev pub findings_document : FileNames → Deny → List Finding → (is_yes : Bool) → Data
findings_document names denied findings is_yes =
    object (member (codes "answer") (string (answer_word is_yes)) (member (codes "errors") (number (unsigned (errors_of findings)))
    (member (codes "findings") (array (items_of (map (finding_document names denied) findings))) (member (codes "notes") (number (unsigned (notes_of findings))) no_members))))

-- ── SARIF 2.1.0: `result` is clause 3.27, `location` 3.28, `region` 3.30, `run` 3.14
-- the columns and the line of a finding
abbrev pub region_document : Finding → Data
region_document f =
    object (member (codes "endColumn") (number (unsigned f.spot.end)) (member (codes "startColumn") (number (unsigned f.spot.column))
    (member (codes "startLine") (number (unsigned f.spot.line)) no_members)))

-- the URI reference to the file with this path (clause 3.4.3; RFC 3986, clause 4.2)
abbrev pub uri_of : (path : List ℕ) → List ℕ
uri_of path = percent_encode ESCAPED path

-- its file
abbrev pub artifact_document : FileNames → Finding → Data
artifact_document names f = object (member (codes "uri") (string (uri_of (file_name names f.role))) no_members)

-- both
abbrev pub physical_document : FileNames → Finding → Data
physical_document names f =
    object (member (codes "artifactLocation") (artifact_document names f) (member (codes "region") (region_document f) no_members))

abbrev pub location_document : FileNames → Finding → Data
location_document names f = object (member (codes "physicalLocation") (physical_document names f) no_members)

-- what a finding says, and what would be right
abbrev pub result_words : (message help : List ℕ) → List ℕ
result_words message [] = message
result_words message help = message ++ (codes ": " ++ help)

-- the terms of its numbers, a line each
abbrev pub term_lines : List (String Global) → List ℕ
term_lines details = flat_map (λ detail. codes "\n" ++ string_bytes detail) details

-- what a finding says
abbrev pub message_document : Finding → Data
message_document f =
    object (member (codes "text") (string (result_words (string_bytes f.message) (string_bytes f.help) ++ term_lines f.details.items)) no_members)

-- `error`, where it makes the answer no
abbrev pub result_level : Deny → Finding → List ℕ
result_level denied f = if is_denied denied f then codes "error" else level_word (level_of f.about)

-- whether it's let pass, and so suppressed (clause 3.27.23, 3.35)
abbrev pub suppression_document : Data
suppression_document = object (member (codes "kind") (string (codes "external")) no_members)

abbrev pub suppressions : Bool → List Data
suppressions passed = if passed then suppression_document ∷ [] else []

-- a finding as a result
abbrev pub result_document : FileNames → Deny → Finding → Data
result_document names denied f =
    object (member (codes "level") (string (result_level denied f)) (member (codes "locations") (array (items_of (location_document names f ∷ [])))
    (member (codes "message") (message_document f) (member (codes "ruleId") (string f.name.now)
    (member (codes "suppressions") (array (items_of (suppressions (is_passed denied f)))) no_members)))))

-- the tool that found them
abbrev pub driver_document : Data
driver_document = object (member (codes "name") (string (codes "ddscheck")) (member (codes "version") (string (codes "0.1.0")) no_members))

abbrev pub tool_document : Data
tool_document = object (member (codes "driver") driver_document no_members)

-- all of them
abbrev pub run_document : FileNames → Deny → List Finding → Data
run_document names denied findings =
    object (member (codes "columnKind") (string (codes "unicodeCodePoints")) (member (codes "results") (array (items_of (map (result_document names denied) findings)))
    (member (codes "tool") tool_document no_members)))

abbrev pub sarif_document : FileNames → Deny → List Finding → Data
sarif_document names denied findings =
    object (member (codes "$schema") (string (codes "https://json.schemastore.org/sarif-2.1.0.json")) (member (codes "runs") (array (items_of (run_document names denied findings ∷ [])))
    (member (codes "version") (string (codes "2.1.0")) no_members)))
