-- What a run of files comes to.
use Rattle.std.proofs.Common.{◌≡◌, ◌∙◌, ℕ, List, length, map, Option, Some, None, Ok, Err, refl, sym, ap, inl, inr, string_bytes, subst}
use Rattle.std.proofs.lemmas.List.{length-map}
use Rattle.std.proofs.lemmas.List.FromFn.{length-map-range_with_len}
use Rattle.dds_fields.specs.Reading.{Flaw, Read}
use Rattle.dds_deploy.specs.Document.{read}
use Rattle.dds_cert.specs.Document as certificate
use Rattle.dds_check.specs.Accepts.{first_no}
use Rattle.dds_lists.specs.Lists.{Lists}
use Rattle.dds_cert.specs.Faults.{kind_of}
use Rattle.dds_weights.specs.Lists.{Certificate}
use Rattle.dds_text.specs.Names.{name_at}
use Rattle.dds_check.specs.declared.verdict.No.{No}
use Rattle.dds_answers.specs.declared.fault.ToolFault.{ToolFault}
use Rattle.dds_answers.specs.declared.fault.ToolFault.TheVariants as fault
use Rattle.dds_answers.specs.Outcome.{Outcome, accepted, bad_certificate, bad_deployment, judged, outcome, planned, refused, told, verdict}
use Rattle.dds_options.specs.declared.detail.Detail.{Detail}
use Rattle.dds_options.specs.declared.detail.Detail.TheVariants.{Plain, Explained}
use Rattle.dds_answers.specs.Report.{Tells}
use Rattle.dds_findings.specs.Blocks.{FileNames}
use Rattle.dds_json.specs.Ends.{in_style}
use Rattle.dds_options.specs.declared.style.Style.{Style}
use Rattle.dds_options.specs.declared.style.Style.TheVariants.{Text, Json}
use Rattle.dds_request.specs.declared.wishes.Wishes.{Wishes}
use Rattle.dds_tool.specs.Outcome.{ComesTo}
use Rattle.dds_tool.specs.RunEnds.{IsAccepted, MayRun}
use Rattle.dds_tool.specs.Running.{app_names}

-- there is a name for each application
pub names_len : {X : Type 0} (text : X → List ℕ) (names : List X) (d : Lists) → map text names ≡ app_names d → length names ≡ length d.applications.entries
names_len text names d are =
    sym (length-map names text) ∙ (ap length are ∙ length-map-range_with_len (name_at d.applications.names) 0 (length d.applications.entries))

-- a file's fault is the same in each style, however much is printed
bad_deployment_styled : (style : Style) (detail : Detail) (flaw : Flaw) → bad_deployment flaw ≡ in_style style (told detail (bad_deployment flaw))
bad_deployment_styled Text Plain flaw = refl
bad_deployment_styled Text Explained flaw = refl
bad_deployment_styled Json Plain flaw = refl
bad_deployment_styled Json Explained flaw = refl

bad_certificate_styled : (style : Style) (detail : Detail) (flaw : Flaw) → bad_certificate flaw ≡ in_style style (told detail (bad_certificate flaw))
bad_certificate_styled Text Plain flaw = refl
bad_certificate_styled Text Explained flaw = refl
bad_certificate_styled Json Plain flaw = refl
bad_certificate_styled Json Explained flaw = refl

-- a fault that a check tells is one that a run comes to
pub told_comes : (wishes : Wishes) (checked : Outcome) (e : ToolFault) → Tells (Err e) checked → (names : FileNames) → (style : Style)
    → ComesTo names style (IsAccepted checked) (MayRun wishes style checked) (Err e)
told_comes wishes checked (fault.Deployment flaw syntax) tells names style =
    let bad = bad_deployment (flaw.kind, string_bytes flaw.path) in
    subst (λ (c : Outcome). ComesTo names style (IsAccepted c) (MayRun wishes style c) (Err (fault.Deployment flaw syntax))) (sym tells)
    (inr (inr (bad, bad_deployment_styled style wishes.detail (flaw.kind, string_bytes flaw.path), refl)))
told_comes wishes checked (fault.Certificate flaw syntax) tells names style =
    let bad = bad_certificate (kind_of flaw.kind, string_bytes flaw.path) in
    subst (λ (c : Outcome). ComesTo names style (IsAccepted c) (MayRun wishes style c) (Err (fault.Certificate flaw syntax))) (sym tells)
    (inr (inr (bad, bad_certificate_styled style wishes.detail (kind_of flaw.kind, string_bytes flaw.path), refl)))
told_comes wishes checked fault.NoMemory tells names style = inr (inl tt)
told_comes wishes checked (fault.Usage text) tells names style = absurd tells
told_comes wishes checked (fault.Events kind line) tells names style = absurd tells
told_comes wishes checked (fault.Trace kind line) tells names style = absurd tells
told_comes wishes checked fault.TooLarge tells names style = absurd tells
told_comes wishes checked fault.Read tells names style = absurd tells
told_comes wishes checked fault.Write tells names style = absurd tells
told_comes wishes checked fault.Run tells names style = absurd tells

-- where a certificate is accepted, the deployment is read as its plan
pub accepted_read : (d c : List ℕ) (lists : Lists) (cert : Certificate) → outcome d c ≡ accepted lists cert → read d ≡ Ok lists
unfolding outcome
accepted_read d c lists cert is = by_read (read d) is
  where
    by_verdict : (first : Option No) (plan : Lists) (found : Certificate) → verdict first plan found ≡ accepted lists cert → plan ≡ lists
    by_verdict None plan found same = cc
    by_verdict (Some why) plan found same = absurd (let wrong : refused why plan found ≡ accepted lists cert = same in cc)

    by_judged : (plan : Lists) (found : Read Certificate) → judged plan found ≡ accepted lists cert → plan ≡ lists
    by_judged plan (Ok found) same = by_verdict (first_no plan found) plan found same
    by_judged plan (Err flaw) same = absurd (let wrong : bad_certificate flaw ≡ accepted lists cert = same in cc)

    by_read : (r : Read Lists) → planned r c ≡ accepted lists cert → r ≡ Ok lists
    by_read (Ok plan) same = ap (λ (p : Lists). Ok p) (by_judged plan (certificate.read plan c) same)
    by_read (Err flaw) same = absurd (let wrong : bad_deployment flaw ≡ accepted lists cert = same in cc)

-- the lists that a deployment is read as are the same each time
pub same_read : (r : Read Lists) (d e : Lists) → r ≡ Ok d → r ≡ Ok e → e ≡ d
same_read r d e one other = let same : Ok e ≡ Ok d = sym other ∙ one in cc
