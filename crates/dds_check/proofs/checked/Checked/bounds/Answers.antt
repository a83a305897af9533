use Rattle.std.proofs.Common.{ap, ◌∙◌}
use Rattle.dds_match.specs.Plan.{network_of}
use Rattle.dds_weights.specs.Views.{certificate_view}
use Rattle.dds_check.specs.Tables.{bound_of}
use Rattle.dds_check.proofs.Least.{least_bound}
use Rattle.dds_check.proofs.checked.Checked.bounds.Goals as goal

pub returns-clause-least : goal.returns-clause-least
returns-clause-least c r k =
    rw (← c.self.view_is) (least_bound (network_of c.self.inside.plan) (certificate_view c.self.inside.certificate) r k _ c.self.invariant.fits
    (ap (λ xs. bound_of xs r k) (c.new.ensures ∙ c.deref.ensures.value)))
