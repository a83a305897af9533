-- The document of a comparison of endpoints.
use Rattle.std.specs.Prelude.{ℕ, Bool, true, false, List, map, flat_map, length, codes, if◌then◌else◌, Option, Some, None}
use Rattle.std.specs.List.{range_with_len}
use Rattle.serde_json.specs.Data.{Data, array, boolean, member, no_members, object, string}
use Rattle.serde_json.specs.View.{items_of}
use Rattle.dds_lists.specs.Lists.{Lists}
use Rattle.dds_match.specs.Matching.{why_not}
use Rattle.dds_match.specs.Plan.{network_of}
use Rattle.dds_match.specs.declared.matching.WhyNot.{WhyNot}
use Rattle.dds_text.specs.Names.{reader_name, writer_name}
use Rattle.dds_show.specs.Reasons.{reason_words}
use Rattle.dds_answers.specs.Matches.{is_as_intended}

-- a writer and a reader that match, or don't for this reason
abbrev pub named_pair : List ℕ → List ℕ → Option WhyNot → Data
named_pair w r None = object (member (codes "matches") (boolean true) (member (codes "reader") (string r) (member (codes "writer") (string w) no_members)))
named_pair w r (Some reason) =
    object (member (codes "because") (string (reason_words reason)) (member (codes "matches") (boolean false) (member (codes "reader") (string r) (member (codes "writer") (string w) no_members))))

-- the writer and the reader with these numbers
abbrev pub pair_document : Lists → ℕ → ℕ → Data
pair_document d w r = named_pair (writer_name d w) (reader_name d r) (why_not d w r)

-- those of a writer, by readers in file order
abbrev pub writer_pairs : Lists → ℕ → ℕ → List Data
writer_pairs d readers w = map (pair_document d w) (range_with_len 0 readers)

-- those of the first so many writers, in file order
abbrev pub pairs : Lists → ℕ → ℕ → List Data
pairs d writers readers = flat_map (writer_pairs d readers) (range_with_len 0 writers)

-- yes or no
abbrev pub answer_word : Bool → List ℕ
answer_word is_yes = if is_yes then codes "yes" else codes "no"

-- yes where exactly the pairs of the connections match, with each writer and each reader
abbrev pub match_document : Lists → Data
match_document d =
    object (member (codes "answer") (string (answer_word (is_as_intended (network_of d)))) (member (codes "pairs") (array (items_of (pairs d (length d.writers.entries) (length d.readers.entries)))) no_members))
