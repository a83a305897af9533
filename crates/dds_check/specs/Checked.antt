-- A plan with a certificate that was accepted for it.
use Rattle.std.specs.Prelude.{◌≡◌, ℕ, ◌≤◌, true, None}
use Rattle.dds_lists.specs.Lists.{Lists}
use Rattle.dds_match.specs.Plan.{network_of}
use Rattle.dds_weights.specs.Fits.{fits}
use Rattle.dds_weights.specs.Lists.{Certificate}
use Rattle.dds_runs.specs.Accepted.{Accepted, certificate_of, IsBound, IsTotal}
use Rattle.dds_check.specs.Accepts.{first_no}
use Rattle.dds_runs.specs.Certified.{Safe}

-- the lists of a plan, and a certificate for it
pub record Judged : Type 0 where
  pub plan : Lists
  pub certificate : Certificate

-- the certificate fits the plan, no condition fails, and so it is accepted and safe in every run
pub record IsAccepted (d : Lists) (cert : Certificate) : Type 0 where
  pub fits : fits (network_of d) cert ≡ true
  pub passes : first_no d cert ≡ None
  pub holds : Accepted (network_of d) (certificate_of cert)
  pub safe : Safe (network_of d) (certificate_of cert)

-- n is the least of the bounds that the certificate gives for the key of the reader
pub record IsLeastBound (cert : Certificate) (r k n : ℕ) : Type 0 where
  pub given : IsBound (certificate_of cert) r k n
  pub least : (m : ℕ) → IsBound (certificate_of cert) r k m → n ≤ m

-- n is the least of the totals that the certificate gives for the reader
pub record IsLeastTotal (cert : Certificate) (r n : ℕ) : Type 0 where
  pub given : IsTotal (certificate_of cert) r n
  pub least : (m : ℕ) → IsTotal (certificate_of cert) r m → n ≤ m
