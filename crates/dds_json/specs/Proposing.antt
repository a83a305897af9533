-- The documents of a proposal.
use Rattle.std.specs.Prelude.{ℕ, List, codes, if◌then◌else◌, string_bytes}
use Rattle.serde_json.specs.Data.{Data, member, no_members, object, string}
use Rattle.dds_answers.specs.declared.answer.Answer.{Answer}

-- yes, with the text of a certificate
abbrev pub proposal_document : List ℕ → Data
proposal_document text = object (member (codes "answer") (string (codes "yes")) (member (codes "certificate") (string text) no_members))

-- no certificate was found
abbrev pub none_document : Data
none_document = object (member (codes "answer") (string (codes "no")) no_members)

-- the document of the answer of a proposal
abbrev pub proposed_document : Answer → Data
proposed_document answer = if answer.is_yes then proposal_document (string_bytes answer.text) else none_document
