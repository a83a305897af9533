use Rattle.std.proofs.Common.{◌∙◌, subst, sym}
use Rattle.dds_weights.specs.Lists.{Certificate}
use Rattle.dds_lists.specs.Lists.{Lists}
use Rattle.dds_match.specs.Plan.{network_of}
use Rattle.dds_runs.specs.Accepted.{Accepted, certificate_of}
use Rattle.dds_runs.specs.World.{opening}
use Rattle.dds_domain.specs.Noted.{opening_notes}
use Rattle.dds_domain.proofs.domain.Domain.open.Goals as goal

pub invariant_of-result : goal.invariant_of-result
invariant_of-result c = (
  record {
    known = c.in-Ok.ensures.known;
    accepted = subst (λ (cert : Certificate). Accepted (network_of c.in-Ok.parts.plan) (certificate_of cert)) (sym c.into_parts-plan.ensures.certificate)
        (subst (λ (p : Lists). Accepted (network_of p) (certificate_of c.args.checked.certificate)) (sym (c.in-Ok.ensures.plan ∙ c.into_parts-plan.ensures.plan)) c.into_parts-plan.ensures.accepted.holds);
  },
  opening,
  opening_notes,
  c.in-Ok.ensures.opening,
)
