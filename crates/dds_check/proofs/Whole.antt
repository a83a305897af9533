-- Where nothing is refused, the certificate is accepted.
use Rattle.std.proofs.Common.{◌≡◌, None}
use Rattle.dds_lists.specs.Lists.{Lists}
use Rattle.dds_lists.specs.WellFormed.{IsWellFormed}
use Rattle.dds_match.specs.Plan.{network_of}
use Rattle.dds_weights.specs.Lists.{Certificate}
use Rattle.dds_runs.specs.First.{◌orElse◌}
use Rattle.dds_runs.specs.Accepted.{Accepted, certificate_of}
use Rattle.dds_check.specs.Pairs.{pairs_no}
use Rattle.dds_check.specs.Profile.{profile_no}
use Rattle.dds_check.specs.Limits.{limits_no}
use Rattle.dds_check.specs.Joins.{joins_no}
use Rattle.dds_check.specs.Rows.{rows_no}
use Rattle.dds_check.specs.Shown.{shown_no}
use Rattle.dds_check.specs.Accepts.{first_no}
use Rattle.dds_check.proofs.FirstLemmas.{orElse_none}
use Rattle.dds_check.proofs.Holds.{accepted_of}
use Rattle.dds_check.proofs.Plans.{known_of}

pub accepted_where_none : (d : Lists) (cert : Certificate) → IsWellFormed d → first_no d cert ≡ None → Accepted (network_of d) (certificate_of cert)
unfolding first_no
accepted_where_none d cert s h =
    let net = network_of d in
    let a = orElse_none (pairs_no net) (profile_no d orElse limits_no net cert orElse joins_no net orElse rows_no net cert.rows orElse shown_no net cert) h in
    let b = orElse_none (profile_no d) (limits_no net cert orElse joins_no net orElse rows_no net cert.rows orElse shown_no net cert) a.1 in
    let e = orElse_none (limits_no net cert) (joins_no net orElse rows_no net cert.rows orElse shown_no net cert) b.1 in
    let j = orElse_none (joins_no net) (rows_no net cert.rows orElse shown_no net cert) e.1 in
    let f = orElse_none (rows_no net cert.rows) (shown_no net cert) j.1 in
    accepted_of net cert (known_of d s) a.0 e.0 j.0 f.0 f.1
