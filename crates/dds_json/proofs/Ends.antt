-- How a command ends whose answer is told in JSON.
use Rattle.std.proofs.Common.{arith, ◌≡◌, ◌∙◌, Bool, true, false, List, ℕ, Result, Ok, Err, IfOk, IfErr, IsOk, OnOk, String, subst, refl, sym, ap, if◌then◌else◌, string_bytes}
use Rattle.std.specs.declared.alloc.Global.{Global}
use Rattle.dds_lists.specs.Lists.{Lists}
use Rattle.dds_weights.specs.Text.{certificate_text}
use Rattle.dds_answers.specs.declared.answer.Answer.{Answer}
use Rattle.dds_answers.specs.declared.fault.ToolFault.{ToolFault}
use Rattle.dds_answers.specs.declared.fault.ToolFault.TheVariants as fault
use Rattle.dds_options.specs.declared.detail.Detail.{Detail}
use Rattle.dds_options.specs.declared.detail.Detail.TheVariants.{Plain, Explained}
use Rattle.dds_answers.specs.declared.report.Report.{Report}
use Rattle.dds_answers.specs.declared.report.Report.TheVariants as answer
use Rattle.dds_answers.specs.Answers.{Gives, IsAnswer, answer_status}
use Rattle.dds_answers.specs.Outcome.{Outcome, accepted, refused, accepted_because, refused_because, compared, proposed, unproposed, migrated, shown, drawn, said, bad_deployment, bad_certificate, bad_events, bad_trace, too_large, told}
use Rattle.dds_answers.specs.Matches.{is_as_intended}
use Rattle.dds_match.specs.Plan.{network_of}
use Rattle.dds_answers.specs.Report.{Ends, outcome_of, output_of, status_of}
use Rattle.dds_json.specs.Checking.{is_accepted, reason_of, report_document}
use Rattle.dds_json.specs.Matching.{match_document}
use Rattle.dds_json.specs.Ends.{EndsProposal, in_json, in_style}
use Rattle.dds_options.specs.declared.style.Style.{Style}
use Rattle.dds_options.specs.declared.style.Style.TheVariants.{Text, Json}
use Rattle.dds_json.specs.Line.{line_of}
use Rattle.dds_json.specs.Proposing.{none_document, proposal_document, proposed_document}

-- the status of an answer
pub told_status : (is_yes : Bool) → answer_status is_yes ≡ (if is_yes then 0 else 1)
told_status true = refl
told_status false = refl

-- an answer with a text is what is said
pub says : (answer : Answer) (text : List ℕ) (is_yes : Bool) → string_bytes answer.text ≡ text → answer.is_yes ≡ is_yes → IsAnswer answer (said text is_yes)
unfolding output_of status_of
says answer text is_yes is same = (is, ap answer_status same ∙ told_status is_yes)

-- a fault ends what is told as a document as it ends what is told in lines
pub ends_in_json : (e : ToolFault) (end : Outcome) → Ends e end → Ends e (in_json end)
ends_in_json (fault.Deployment flaw syntax) end is = ap in_json is
ends_in_json (fault.Certificate flaw syntax) end is = ap in_json is
ends_in_json (fault.Events kind line) end is = ap in_json is
ends_in_json (fault.Trace kind line) end is = ap in_json is
ends_in_json fault.TooLarge end is = ap in_json is
ends_in_json fault.Read end is = tt
ends_in_json fault.Write end is = tt
ends_in_json fault.NoMemory end is = tt
ends_in_json (fault.Usage text) end is = absurd is
ends_in_json fault.Run end is = absurd is

-- so it does in either style
pub ends_in_style : (style : Style) (e : ToolFault) (end : Outcome) → Ends e end → Ends e (in_style style end)
ends_in_style Text e end is = is
ends_in_style Json e end is = ends_in_json e end is

-- a report's document is said
report_said : (report : Report) (detail : Detail) → in_json (told detail (outcome_of report)) ≡ said (line_of (report_document report (reason_of report detail))) (is_accepted report)
report_said (answer.Yes checked) Plain = refl
report_said (answer.Yes checked) Explained = refl
report_said (answer.Refused first lists cert) Plain = refl
report_said (answer.Refused first lists cert) Explained = refl

-- an answer with a line, if there was memory for it, is what is given of an end that says it
pub line_gives : {E : Type 0} (text : Result (String Global) E) (r : Result Answer ToolFault) (line : List ℕ) (is_yes b : Bool) → b ≡ is_yes
    → IfOk r (λ a. (a.is_yes ≡ b) × IfOk text (λ t. a.text ≡ t)) → OnOk r (IsOk text) → IfErr r (λ e. e ≡ fault.NoMemory) → IfOk text (λ t. string_bytes t ≡ line)
    → Gives r (said line is_yes)
line_gives (Ok t) (Ok a) line is_yes b same has there memory is = says a line is_yes (ap string_bytes has.1 ∙ is) (has.0 ∙ same)
line_gives (Err e) (Ok a) line is_yes b same has there memory is = absurd (let no : false ≡ true = there in cc)
line_gives text (Err e) line is_yes b same has there memory is = subst (λ (x : ToolFault). Ends x (said line is_yes)) (sym memory) tt

-- so it is of a report
pub report_gives : {E : Type 0} (report : Report) (detail : Detail) (text : Result (String Global) E) (r : Result Answer ToolFault) (b : Bool) → b ≡ is_accepted report
    → IfOk r (λ a. (a.is_yes ≡ b) × IfOk text (λ t. a.text ≡ t)) → OnOk r (IsOk text) → IfErr r (λ e. e ≡ fault.NoMemory)
    → IfOk text (λ t. string_bytes t ≡ line_of (report_document report (reason_of report detail))) → Gives r (in_json (told detail (outcome_of report)))
report_gives report detail text r b same has there memory is =
    subst (λ (end : Outcome). Gives r end) (sym (report_said report detail)) (line_gives text r (line_of (report_document report (reason_of report detail))) (is_accepted report) b same has there memory is)

-- and of a comparison
pub compared_gives : {E : Type 0} (d : Lists) (text : Result (String Global) E) (r : Result Answer ToolFault) (b : Bool) → b ≡ is_as_intended (network_of d)
    → IfOk r (λ a. (a.is_yes ≡ b) × IfOk text (λ t. a.text ≡ t)) → OnOk r (IsOk text) → IfErr r (λ e. e ≡ fault.NoMemory)
    → IfOk text (λ t. string_bytes t ≡ line_of (match_document d)) → Gives r (in_json (compared d))
compared_gives d text r b same has there memory is = line_gives text r (line_of (match_document d)) (is_as_intended (network_of d)) b same has there memory is

yes_of : (b : Bool) → answer_status b ≡ 0 → b ≡ true
yes_of true is = refl
yes_of false is = absurd (omega (arith, is))

no_of : (b : Bool) → answer_status b ≡ 1 → b ≡ false
no_of true is = absurd (omega (arith, is))
no_of false is = refl

never_two : (b : Bool) → answer_status b ≡ 2 → ⊥
never_two true is = omega (arith, is)
never_two false is = omega (arith, is)

-- an answer with the line of a proposal's document is what is told of the proposal
pub proposal_told : (old new : Answer) (end : Outcome) → EndsProposal end → IsAnswer old end → string_bytes new.text ≡ line_of (proposed_document old) → new.is_yes ≡ old.is_yes
    → IsAnswer new (in_json end)
unfolding output_of status_of
proposal_told old new (proposed d c) ends is text same =
    let yes = yes_of old.is_yes is.1 in
    let document : proposed_document old ≡ proposal_document (certificate_text d c) = rw yes (ap proposal_document is.0) in
    says new (line_of (proposal_document (certificate_text d c))) true (text ∙ ap line_of document) (same ∙ yes)
proposal_told old new unproposed ends is text same =
    let no = no_of old.is_yes is.1 in
    let document : proposed_document old ≡ none_document = rw no refl in
    says new (line_of none_document) false (text ∙ ap line_of document) (same ∙ no)
proposal_told old new (bad_deployment flaw) ends is text same = absurd (never_two old.is_yes is.1)
proposal_told old new too_large ends is text same = absurd (never_two old.is_yes is.1)
proposal_told old new (accepted d c) ends is text same = absurd ends
proposal_told old new (refused first d c) ends is text same = absurd ends
proposal_told old new (accepted_because d c) ends is text same = absurd ends
proposal_told old new (refused_because first d c) ends is text same = absurd ends
proposal_told old new (compared d) ends is text same = absurd ends
proposal_told old new (migrated lines) ends is text same = absurd ends
proposal_told old new (shown format d) ends is text same = absurd ends
proposal_told old new (drawn d c) ends is text same = absurd ends
proposal_told old new (said lines is_yes) ends is text same = absurd ends
proposal_told old new (bad_certificate flaw) ends is text same = absurd ends
proposal_told old new (bad_events kind line) ends is text same = absurd ends
proposal_told old new (bad_trace kind line) ends is text same = absurd ends

-- an answer that was told, or that there was no memory for it, is what is given of its end
pub proposal_gives : (answer : Answer) (r : Result Answer ToolFault) → ((end : Outcome) → EndsProposal end → IsAnswer answer end → IfOk r (λ told. IsAnswer told (in_json end)))
    → IfErr r (λ e. e ≡ fault.NoMemory) → (end : Outcome) → EndsProposal end → IsAnswer answer end → Gives r (in_json end)
proposal_gives answer (Ok told) gives memory end ends is = gives end ends is
proposal_gives answer (Err e) gives memory end ends is = subst (λ (x : ToolFault). Ends x (in_json end)) (sym memory) tt
