-- What is answered to which limits a deployment needs.
use Rattle.std.specs.Prelude.{ℕ, ◌≡◌, ◌≤◌, Bool, true, false, List, ◌++◌, flat_map, length, nat_le, Option, Some, None, IfSome, option_map, Ok, Err, codes, string_bytes, if◌then◌else◌}
use Rattle.dds_fields.specs.Reading.{Read}
use Rattle.dds_lists.specs.Lists.{Lists}
use Rattle.dds_deploy.specs.Document as deployment
use Rattle.dds_match.specs.Plan.{network_of}
use Rattle.dds_weights.specs.Fits.{fits}
use Rattle.dds_weights.specs.Lists as lists
use Rattle.dds_weights.specs.Text.{certificate_text}
use Rattle.dds_weights.specs.Views.{certificate_view}
use Rattle.dds_runs.specs.Accepted.{certificate_of}
use Rattle.dds_claims.specs.Claims.{IsShown}
use Rattle.dds_search.specs.Sizes.{AreSizes, claims_all}
use Rattle.dds_search.specs.declared.certificate.sizes.Size.{Size}
use Rattle.dds_answers.specs.declared.answer.Answer.{Answer}
use Rattle.dds_answers.specs.Outcome.{Outcome, bad_deployment, said}
use Rattle.dds_answers.specs.Reading.{most_bytes}
use Rattle.dds_json.specs.Line.{line_of}
use Rattle.dds_json.specs.Proposing.{none_document}
use Rattle.dds_options.specs.declared.style.Style.{Style}
use Rattle.dds_options.specs.declared.style.Style.TheVariants.{Text, Json}
use Rattle.dds_sizing.specs.LimitsDocument.{claim_document, limits_document}
use Rattle.dds_sizing.specs.Needs.{are_met, has_unbounded, needs_of}
use Rattle.dds_sizing.specs.NeedsText.{needs_lines}
use Rattle.dds_sizing.specs.Reasons.{AreExplained, because_of, sizes_of}
use Rattle.dds_sizing.specs.ReasonsDocument.{reasons_document}
use Rattle.dds_request.specs.declared.request.Sizing.{Sizing}
use Rattle.dds_request.specs.declared.request.Sizing.TheVariants.{Bounds, Reasons, Certificate}
use Rattle.dds_sizing.specs.declared.limits.LimitsReport.{LimitsReport}
use Rattle.dds_sizing.specs.declared.limits.LimitsReport.TheVariants as report
use Rattle.dds_sizing.specs.declared.needs.Need.{Need}
use Rattle.dds_sizing.specs.declared.reasons.Explained.{Explained}

-- ── what is printed
-- what is needed, in this style
abbrev pub needs_told : Style → Lists → List Need → List ℕ
needs_told Text d needs = needs_lines d needs
needs_told Json d needs = line_of (limits_document d needs)

-- the same with a line for each need that says why
abbrev pub reasons_told : Style → Lists → List Explained → List Need → List ℕ
reasons_told Text d es needs = needs_lines d needs ++ flat_map (because_of d es) needs
reasons_told Json d es needs = line_of (reasons_document d es needs)

-- what helps where something is unbounded
abbrev pub cure_of : List Need → Option (List ℕ)
cure_of needs =
    if has_unbounded needs then Some (codes "ddscheck: no limit is enough for what's unbounded: let a rule take there before it goes on, or let the reader lose samples; `--explain` names the rules that fill it\n") else None

-- the text of a certificate, in this style
abbrev pub text_told : Style → List ℕ → Bool → List ℕ
text_told Text text is_met = text
text_told Json text is_met = line_of (claim_document text is_met)

-- that there is no certificate, in this style
abbrev pub none_told : Style → List ℕ
none_told Text = codes "none\n"
none_told Json = line_of none_document

-- a certificate, if there is one
abbrev pub claim_told : Style → Lists → Bool → Option lists.Certificate → List ℕ
claim_told style d is_met (Some cert) = text_told style (certificate_text d cert) is_met
claim_told style d is_met None = none_told style

-- there is one, and each need is met
abbrev pub is_claimed : Bool → Option lists.Certificate → Bool
is_claimed is_met (Some cert) = is_met
is_claimed is_met None = false

-- ── which answers may be
-- what some sizes need is printed, each of which weights show
abbrev pub MayTellNeeds : Style → Lists → Outcome → Type 0
MayTellNeeds style d end =
    (sizes : List Size) × AreSizes (network_of d) sizes
    × (end ≡ said (needs_told style d (needs_of (network_of d) sizes)) (are_met (needs_of (network_of d) sizes)))

-- the same where each size is explained
abbrev pub MayTellReasons : Style → Lists → Outcome → Type 0
MayTellReasons style d end =
    (es : List Explained) × AreExplained d es
    × (end ≡ said (reasons_told style d es (needs_of (network_of d) (sizes_of es))) (are_met (needs_of (network_of d) (sizes_of es))))

-- the certificate fits the deployment, no event raises the weighted sum of any of its rows, they show its bounds, it has all bounds of the sizes, and its text is
-- no longer than a file may be
abbrev pub IsClaim : Lists → List Size → lists.Certificate → Type 0
IsClaim d sizes cert =
    (fits (network_of d) cert ≡ true) × IsShown (network_of d) (certificate_of cert) × (claims_all cert sizes ≡ true) × (length (certificate_text d cert) ≤ most_bytes)

-- a certificate of some sizes is printed, each of which weights show, or that there is none
abbrev pub MayTellClaim : Style → Lists → Outcome → Type 0
MayTellClaim style d end =
    (sizes : List Size) × (cert : Option lists.Certificate) × AreSizes (network_of d) sizes × IfSome cert (IsClaim d sizes)
    × (end ≡ said (claim_told style d (are_met (needs_of (network_of d) sizes)) cert) (is_claimed (are_met (needs_of (network_of d) sizes)) cert))

-- of a deployment that can be read, as it is asked for
abbrev pub MayLimitLists : Sizing → Style → Lists → Outcome → Type 0
MayLimitLists Bounds style d end = MayTellNeeds style d end
MayLimitLists Reasons style d end = MayTellReasons style d end
MayLimitLists Certificate style d end = MayTellClaim style d end

-- a flaw of the deployment is reported
abbrev pub MayLimit : Sizing → Style → Read Lists → Outcome → Type 0
MayLimit what style (Ok d) end = MayLimitLists what style d end
MayLimit what style (Err flaw) end = end ≡ bad_deployment flaw

-- ── by what is found
-- what is found of the limits that a deployment needs is so, and it's what is asked for
abbrev pub IsLimitsReport : Sizing → Lists → LimitsReport → Type 0
IsLimitsReport Bounds d (report.Bounds sizes) = AreSizes (network_of d) sizes.items
IsLimitsReport Reasons d (report.Reasons es) = AreExplained d es.items
IsLimitsReport Certificate d (report.Certificate found) =
    AreSizes (network_of d) found.list.items
    × IfSome found.certificate (λ c. (fits (network_of d) (certificate_view c) ≡ true) × IsShown (network_of d) (certificate_of (certificate_view c))
    × (claims_all (certificate_view c) found.list.items ≡ true))
IsLimitsReport what d found = ⊥

-- how the answer ends with a certificate that was found: its text is printed where it's no longer than a file may be, else that there is none
abbrev pub claim_end : Style → Lists → Bool → Option lists.Certificate → Outcome
claim_end style d is_met (Some cert) =
    if nat_le (length (certificate_text d cert)) most_bytes then said (text_told style (certificate_text d cert) is_met) is_met else said (none_told style) false
claim_end style d is_met None = said (none_told style) false

-- how it ends with what was found
abbrev pub limits_end : Style → Lists → LimitsReport → Outcome
limits_end style d (report.Bounds sizes) = said (needs_told style d (needs_of (network_of d) sizes.items)) (are_met (needs_of (network_of d) sizes.items))
limits_end style d (report.Reasons es) =
    said (reasons_told style d es.items (needs_of (network_of d) (sizes_of es.items))) (are_met (needs_of (network_of d) (sizes_of es.items)))
limits_end style d (report.Certificate found) =
    claim_end style d (are_met (needs_of (network_of d) found.list.items)) (option_map certificate_view found.certificate)

-- ── for the parts of an answer
-- the answer has this text, and is a yes or a no
abbrev pub IsSaid : List ℕ → Bool → Answer → Type 0
IsSaid text is_yes answer = (string_bytes answer.text ≡ text) × (answer.is_yes ≡ is_yes)
