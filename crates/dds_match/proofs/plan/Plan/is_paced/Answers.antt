use Rattle.std.proofs.Common.{◌∙◌, ap}
use Rattle.dds_match.specs.Paces.{is_paced}
use Rattle.dds_match.specs.Writes.{are_paced}
use Rattle.dds_match.proofs.Brought.{are_paced_is}
use Rattle.dds_match.proofs.plan.Plan.is_paced.Goals as goal

pub returns : goal.returns
returns c =
    c.are_paced.ensures ∙ ap (λ writes. are_paced writes c.args.key) c.writes_of.ensures.value ∙ are_paced_is c.self.inside.deployment c.args.w c.args.key
    ∙ ap (λ d. is_paced d c.args.w c.args.key) c.self.view_is
