use Rattle.std.proofs.Common.{ap, ◌∙◌, Some}
use Rattle.dds_match.specs.Plan.{network_of}
use Rattle.dds_weights.specs.Views.{certificate_view}
use Rattle.dds_check.specs.Tables.{bound_of}
use Rattle.dds_check.proofs.Least.{least_bound}
use Rattle.dds_check.proofs.checked.Checked.bound.Goals as goal

pub returns-in-Some-clause-least : goal.returns-in-Some-clause-least
returns-in-Some-clause-least c =
    rw (← c.self.view_is) (least_bound (network_of c.self.inside.plan) (certificate_view c.self.inside.certificate) c.args.reader c.args.key (Some c.from.result) c.self.invariant.fits
    (ap Some c.from.ensures ∙ (c.in-Some.ensures ∙ ap (λ xs. bound_of xs c.args.reader c.args.key) c.deref.ensures.value)))
