-- The document that lists needs and says why they are there.
use Rattle.std.specs.Prelude.{ℕ, List, codes, map, Option, Some, None}
use Rattle.serde_json.specs.Data.{Data, array, member, no_members, object, string}
use Rattle.serde_json.specs.View.{items_of}
use Rattle.dds_lists.specs.Lists.{Lists}
use Rattle.dds_json.specs.Matching.{answer_word}
use Rattle.dds_search.specs.declared.answer.Least.{Least}
use Rattle.dds_sizing.specs.LimitsDocument.{least_document, limit_document, subject_document}
use Rattle.dds_sizing.specs.Needs.{are_met, room_of}
use Rattle.dds_sizing.specs.Reasons.{because_of}
use Rattle.dds_sizing.specs.declared.needs.Limit.{Limit}
use Rattle.dds_sizing.specs.declared.needs.Need.{Need}
use Rattle.dds_sizing.specs.declared.reasons.Explained.{Explained}

-- a need of this subject with its line, and its limit, if there is one
abbrev pub explained_document : List ℕ → Data → Least → Option Limit → Data
explained_document line subject least (Some limit) =
    object (member (codes "because") (string line)
    (member (codes "bound") (least_document least) (member (codes "limit") (limit_document least limit) (member (codes "subject") subject no_members))))
explained_document line subject least None =
    object (member (codes "because") (string line) (member (codes "bound") (least_document least) (member (codes "subject") subject no_members)))

-- the document of a need with its line
abbrev pub reason_document : Lists → List Explained → Need → Data
reason_document d es one = explained_document (because_of d es one) (subject_document d one) (room_of one).least (room_of one).limit

-- yes where a bound is known of each need and no limit is lower, with each need
abbrev pub reasons_document : Lists → List Explained → List Need → Data
reasons_document d es needs =
    object (member (codes "answer") (string (answer_word (are_met needs))) (member (codes "needs") (array (items_of (map (reason_document d es) needs))) no_members))
