-- How a command ends whose answer is printed as JSON.
use Rattle.std.specs.Prelude.{true, false, Some, None}
use Rattle.dds_match.specs.Plan.{network_of}
use Rattle.dds_weights.specs.Text.{certificate_text}
use Rattle.dds_explain.specs.Explanation.{reason}
use Rattle.dds_answers.specs.Matches.{is_as_intended}
use Rattle.dds_answers.specs.Outcome.{Outcome, accepted, refused, accepted_because, refused_because, compared, proposed, unproposed, migrated, shown, drawn, said, bad_deployment, bad_certificate, bad_events, bad_trace, too_large}
use Rattle.dds_answers.specs.Report.{acceptance_reason}
use Rattle.dds_json.specs.Checking.{acceptance_document, refusal_document}
use Rattle.dds_json.specs.Line.{line_of}
use Rattle.dds_json.specs.Matching.{match_document}
use Rattle.dds_json.specs.Proposing.{none_document, proposal_document}
use Rattle.dds_options.specs.declared.style.Style.{Style}
use Rattle.dds_options.specs.declared.style.Style.TheVariants.{Text, Json}

-- the document of the answer is said, with the same yes or no; a bad file ends as ever, and so does what is a text or a document of its own
abbrev pub in_json : Outcome → Outcome
in_json (accepted d c) = said (line_of (acceptance_document d c None)) true
in_json (refused first d c) = said (line_of (refusal_document d c first None)) false
in_json (accepted_because d c) = said (line_of (acceptance_document d c (Some (acceptance_reason d c)))) true
in_json (refused_because first d c) = said (line_of (refusal_document d c first (Some (reason d c first)))) false
in_json (compared d) = said (line_of (match_document d)) (is_as_intended (network_of d))
in_json (proposed d c) = said (line_of (proposal_document (certificate_text d c))) true
in_json unproposed = said (line_of none_document) false
in_json (migrated text) = migrated text
in_json (shown format d) = shown format d
in_json (drawn d c) = drawn d c
in_json (said lines is_yes) = said lines is_yes
in_json (bad_deployment flaw) = bad_deployment flaw
in_json (bad_certificate flaw) = bad_certificate flaw
in_json (bad_events kind line) = bad_events kind line
in_json (bad_trace kind line) = bad_trace kind line
in_json too_large = too_large

-- this end, in this style
abbrev pub in_style : Style → Outcome → Outcome
in_style Text end = end
in_style Json end = in_json end

-- an end of a command that looks for a certificate
abbrev pub EndsProposal : Outcome → Type 0
EndsProposal (proposed d c) = Unit {0}
EndsProposal unproposed = Unit {0}
EndsProposal (bad_deployment flaw) = Unit {0}
EndsProposal too_large = Unit {0}
EndsProposal _ = ⊥
