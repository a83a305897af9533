-- What is answered of runs that lose a sample, and of events that are made again.
use Rattle.std.specs.Prelude.{ℕ, ◌≡◌, ◌≢◌, Bool, true, false, List, ◌++◌, length, Some, None, Ok, Err, codes}
use Rattle.std.specs.Fmt.{decimal}
use Rattle.dds_fields.specs.Reading.{Read}
use Rattle.dds_lists.specs.Lists.{Lists}
use Rattle.dds_deploy.specs.Document as deployment
use Rattle.dds_match.specs.Plan.{network_of}
use Rattle.dds_weights.specs.Fits.{fits}
use Rattle.dds_weights.specs.Lists.{Certificate}
use Rattle.dds_text.specs.Names.{reader_key, reader_name}
use Rattle.dds_weights.specs.Views.{certificate_view}
use Rattle.dds_runs.specs.Accepted.{certificate_of}
use Rattle.dds_check.specs.Accepts.{first_no}
use Rattle.dds_runs.specs.Certified.{Safe}
use Rattle.dds_claims.specs.Claims.{structure_no}
use Rattle.dds_events.specs.Lines.{lines_of}
use Rattle.dds_events.specs.Replies.{rejection_name}
use Rattle.dds_search.specs.declared.loss.Counterexample.{Counterexample}
use Rattle.dds_search.specs.declared.loss.Loss.{Loss}
use Rattle.dds_search.specs.declared.loss.Loss.TheVariants as lost
use Rattle.dds_search.specs.declared.loss.refuting.Refutation.{Refutation}
use Rattle.dds_search.specs.declared.loss.refuting.Refutation.TheVariants as refutation
use Rattle.dds_search.specs.declared.loss.refuting.Unknown.{Unknown}
use Rattle.dds_search.specs.declared.loss.refuting.Unknown.TheVariants as unknown
use Rattle.dds_search.specs.Refutations.{IsCounterexample}
use Rattle.dds_sizing.specs.Shortages.{shortage_word}
use Rattle.dds_tool.specs.Summary.{summary_line, summary_text}
use Rattle.dds_answers.specs.Outcome.{Outcome, bad_deployment, said}
use Rattle.dds_answers.specs.Structure.{nothing}
use Rattle.dds_report.specs.Refusal.{refusal_line}
use Rattle.serde_json.specs.Data.{Data, member, no_members, object, string}
use Rattle.dds_json.specs.Checking.{refusal_document}
use Rattle.dds_json.specs.Line.{line_of}
use Rattle.dds_options.specs.declared.style.Style.{Style}
use Rattle.dds_options.specs.declared.style.Style.TheVariants.{Text, Json}

-- ── a run that loses a sample
-- the word for a loss: the limit that rejects, or that a sample is overwritten or given up
abbrev pub loss_name : Loss → List ℕ
loss_name (lost.Rejected kind) = rejection_name kind
loss_name lost.Overwrote = codes "Overwrote"
loss_name lost.Lost = codes "Lost"

-- the line of a counterexample: the reader, the key, the loss, and how many events there are
abbrev pub unsafe_line : Lists → Counterexample → List ℕ
unsafe_line d c =
    codes "unsafe " ++ (reader_name d c.reader ++ (codes " " ++ (reader_key d c.reader c.key ++ (codes " " ++ (loss_name c.loss ++ (codes " " ++ (decimal (length c.events.items) ++ codes "\n")))))))

-- the line, that which sums the run up, and those of its events with their replies
abbrev pub refuted_text : Lists → Counterexample → List ℕ
refuted_text d c = unsafe_line d c ++ (summary_line d c.events.items c.replies.items ++ lines_of d c.events.items c.replies.items)

-- the line where neither a certificate nor such a run was found
abbrev pub unknown_line : Unknown → List ℕ
unknown_line unknown.Exhausted = codes "unknown exhausted\n"
unknown_line (unknown.Budget shortage) = codes "unknown budget " ++ (shortage_word shortage ++ codes "\n")

-- the document for it
abbrev pub unknown_document : Unknown → Data
unknown_document unknown.Exhausted = object (member (codes "answer") (string (codes "no")) (member (codes "unknown") (string (codes "exhausted")) no_members))
unknown_document (unknown.Budget shortage) =
    object (member (codes "answer") (string (codes "no")) (member (codes "spent") (string (shortage_word shortage)) (member (codes "unknown") (string (codes "budget")) no_members)))

-- the document of a run that loses a sample: the reader, the key, the loss, what sums the run up, and the lines of its events with their replies
abbrev pub loss_document : (reader key loss summary events : List ℕ) → Data
loss_document reader key loss summary events =
    object (member (codes "answer") (string (codes "no")) (member (codes "events") (string events) (member (codes "key") (string key) (member (codes "loss") (string loss) (member (codes "reader") (string reader) (member (codes "summary") (string summary) no_members))))))

-- the document of a counterexample
abbrev pub unsafe_document : Lists → Counterexample → Data
unsafe_document d c =
    loss_document (reader_name d c.reader) (reader_key d c.reader c.key) (loss_name c.loss) (summary_text d c.events.items c.replies.items) (lines_of d c.events.items c.replies.items)

-- the document for what is known
abbrev pub known_document : Lists → Refutation → Data
known_document lists (refutation.Safe c) = object (member (codes "answer") (string (codes "yes")) no_members)
known_document lists (refutation.Structure cause) = refusal_document lists nothing cause None
known_document lists (refutation.Unsafe c) = unsafe_document lists c
known_document lists (refutation.Unknown why) = unknown_document why

-- the text for what is known
abbrev pub known_text : Lists → Refutation → List ℕ
known_text lists (refutation.Safe c) = codes "safe\n"
known_text lists (refutation.Structure cause) = refusal_line lists nothing cause
known_text lists (refutation.Unsafe c) = refuted_text lists c
known_text lists (refutation.Unknown why) = unknown_line why

-- a certificate shows that the deployment is safe
abbrev pub is_safe : Refutation → Bool
is_safe (refutation.Safe c) = true
is_safe _ = false

-- what is known is so: a certificate fits and is accepted, and the deployment is safe; a condition fails whatever the certificate; a run loses a sample, and no
-- certificate is accepted
abbrev pub IsKnown : Lists → Refutation → Type 0
IsKnown lists (refutation.Safe c) =
    (fits (network_of lists) (certificate_view c) ≡ true) × (first_no lists (certificate_view c) ≡ None) × Safe (network_of lists) (certificate_of (certificate_view c))
IsKnown lists (refutation.Structure cause) = structure_no lists ≡ Some cause
IsKnown lists (refutation.Unsafe c) = IsCounterexample (network_of lists) c × ((cert : Certificate) → first_no lists cert ≢ None)
IsKnown lists (refutation.Unknown why) = Unit {0}

-- what is known, in this style
abbrev pub told_known : Style → Lists → Refutation → List ℕ
told_known Text lists known = known_text lists known
told_known Json lists known = line_of (known_document lists known)

-- of a deployment that can be read something is printed that is known, in this style
abbrev pub MayRefuteLists : Style → Lists → Outcome → Type 0
MayRefuteLists style lists end = (known : Refutation) × IsKnown lists known × (end ≡ said (told_known style lists known) (is_safe known))

-- a flaw of the deployment is reported
abbrev pub MayRefute : Style → Read Lists → Outcome → Type 0
MayRefute style (Ok lists) end = MayRefuteLists style lists end
MayRefute style (Err flaw) end = end ≡ bad_deployment flaw
