-- Why a size is what it is.
use Rattle.std.specs.Prelude.{ℕ, ◌≡◌, true}
use Rattle.dds_match.specs.Network.{Network}
use Rattle.dds_weights.specs.Fits.{fits}
use Rattle.dds_weights.specs.Lists.{Certificate}
use Rattle.dds_weights.specs.Views.{certificate_view}
use Rattle.dds_runs.specs.Accepted.{certificate_of}
use Rattle.dds_claims.specs.Claims.{IsShown}
use Rattle.dds_propose.specs.Proposal.{bound_entry, total_entry}
use Rattle.dds_propose.specs.declared.targets.Target.{Target}
use Rattle.dds_search.specs.Rays.{IsRay}
use Rattle.dds_search.specs.declared.answer.Least.{Least}
use Rattle.dds_search.specs.declared.answer.Least.TheVariants.{Shown, Unbounded, Unknown}
use Rattle.dds_search.specs.declared.certificate.reasons.Reason.{Reason}
use Rattle.dds_search.specs.declared.certificate.reasons.Reason.TheVariants.{Weights, Growth, Nothing}
use Rattle.dds_search.specs.declared.certificate.reasons.Reasoned.{Reasoned}

-- the certificate claims this bound for the target, by its first row, and no other bound; it fits, no event raises the weighted sum of a row, and the row shows
-- the bound
abbrev pub IsClaimFor : Network → Target → ℕ → Certificate → Type 0
IsClaimFor net target n cert =
    (fits net cert ≡ true) × (cert.bounds ≡ bound_entry target 0 n) × (cert.totals ≡ total_entry target 0 n) × IsShown net (certificate_of cert)

-- a bound has a certificate that claims it alone; where no weights show one there is a ray; where nothing is known nothing is given
abbrev pub IsReason : Network → Target → Least → Reason → Type 0
IsReason net target (Shown n) (Weights cert) = IsClaimFor net target n (certificate_view cert)
IsReason net target Unbounded (Growth ray) = IsRay net target ray
IsReason net target Unknown Nothing = Unit {0}
IsReason net target least reason = ⊥

-- a size and its reason
abbrev pub IsReasoned : Network → Reasoned → Type 0
IsReasoned net found = IsReason net found.size.target found.size.least found.reason
