use Rattle.dds_match.specs.Plan.{network_of}
use Rattle.dds_weights.specs.Views.{certificate_view}
use Rattle.dds_search.proofs.Claimed.{claimed_for}
use Rattle.dds_search.proofs.certificate.searching.shown.Goals as goal

pub returns-in-Some : goal.returns-in-Some
returns-in-Some c =
    let claim = rw c.in-Some.is at c.in_ok-certificate.ensures in
    claimed_for (network_of c.args.plan.now) (certificate_view c.in-Some.certificate) c.args.target.now c.args.bound claim
