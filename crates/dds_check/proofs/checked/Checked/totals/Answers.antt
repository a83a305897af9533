use Rattle.std.proofs.Common.{ap, ◌∙◌}
use Rattle.dds_match.specs.Plan.{network_of}
use Rattle.dds_weights.specs.Views.{certificate_view}
use Rattle.dds_check.specs.Tables.{total_of}
use Rattle.dds_check.proofs.Least.{least_total}
use Rattle.dds_check.proofs.checked.Checked.totals.Goals as goal

pub returns-clause-least : goal.returns-clause-least
returns-clause-least c r =
    rw (← c.self.view_is) (least_total (network_of c.self.inside.plan) (certificate_view c.self.inside.certificate) r _ c.self.invariant.fits
    (ap (λ xs. total_of xs r) (c.new.ensures ∙ c.deref.ensures.value)))
