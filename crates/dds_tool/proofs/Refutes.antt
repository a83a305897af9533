-- What a refutation comes to.
use Rattle.std.proofs.Common.{false, true, ◌≡◌, ◌≢◌, Some, None, Ok, refl, ap}
use Rattle.dds_lists.specs.Lists.{Lists}
use Rattle.dds_answers.specs.Outcome.{said}
use Rattle.dds_weights.specs.Fits.{fits}
use Rattle.dds_weights.specs.Lists.{Certificate}
use Rattle.dds_weights.specs.Views.{certificate_view}
use Rattle.dds_match.specs.Plan.{network_of}
use Rattle.dds_runs.specs.Accepted.{certificate_of}
use Rattle.dds_check.specs.Accepts.{first_no}
use Rattle.dds_runs.specs.Certified.{Safe}
use Rattle.dds_claims.specs.Claims.{structure_no}
use Rattle.dds_search.specs.declared.loss.refuting.Refutation.{Refutation}
use Rattle.dds_search.specs.declared.loss.refuting.Refutation.TheVariants as refutation
use Rattle.dds_search.specs.declared.loss.refuting.Unknown.TheVariants as unknown
use Rattle.dds_search.specs.Refutations.{IfSafe, IfStructure, IfUnsafe, IsCounterexample}
use Rattle.dds_tool.specs.Refuting.{IsKnown, MayRefute, is_safe, known_document, told_known}
use Rattle.dds_options.specs.declared.style.Style.{Style}
use Rattle.serde_json.specs.Written.{has_float}
use Rattle.dds_answers.specs.Structure.{nothing}
use Rattle.dds_json.proofs.Documents.{refusal_plain}

-- what is promised of a refutation is what is known
known_is : (lists : Lists) (known : Refutation) → IfUnsafe known (IsCounterexample (network_of lists)) → IfUnsafe known (λ c. (cert : Certificate) → first_no lists cert ≢ None)
    → IfSafe known (λ c. fits (network_of lists) (certificate_view c) ≡ true) → IfSafe known (λ c. Safe (network_of lists) (certificate_of (certificate_view c)))
    → IfSafe known (λ c. first_no lists (certificate_view c) ≡ None) → IfStructure known (λ cause. structure_no lists ≡ Some cause) → IsKnown lists known
known_is lists (refutation.Safe c) run unaccepted fit safe accepted structure = (fit, accepted, safe)
known_is lists (refutation.Structure cause) run unaccepted fit safe accepted structure = structure
known_is lists (refutation.Unsafe c) run unaccepted fit safe accepted structure = (run, unaccepted)
known_is lists (refutation.Unknown why) run unaccepted fit safe accepted structure = tt

-- so is it of a plan that was given back
pub may_refute : (style : Style) (lists plan : Lists) (known : Refutation) → plan ≡ lists
    → IfUnsafe known (IsCounterexample (network_of lists)) → IfUnsafe known (λ c. (cert : Certificate) → first_no lists cert ≢ None)
    → IfSafe known (λ c. fits (network_of lists) (certificate_view c) ≡ true) → IfSafe known (λ c. Safe (network_of lists) (certificate_of (certificate_view c)))
    → IfSafe known (λ c. first_no lists (certificate_view c) ≡ None) → IfStructure known (λ cause. structure_no lists ≡ Some cause)
    → MayRefute style (Ok lists) (said (told_known style plan known) (is_safe known))
may_refute style lists plan known still run unaccepted fit safe accepted structure =
    (known, known_is lists known run unaccepted fit safe accepted structure, ap (λ (l : Lists). said (told_known style l known) (is_safe known)) still)

-- the document for what is known has no fraction
pub known_plain : (lists : Lists) (known : Refutation) → has_float (known_document lists known) ≡ false
known_plain lists (refutation.Safe c) = refl
known_plain lists (refutation.Structure cause) = refusal_plain lists nothing cause None
known_plain lists (refutation.Unsafe c) = refl
known_plain lists (refutation.Unknown unknown.Exhausted) = refl
known_plain lists (refutation.Unknown (unknown.Budget shortage)) = refl
