use Rattle.std.proofs.Common.{rules}
use Rattle.dds_sizing.specs.Reasons.{because_of}
use Rattle.dds_sizing.proofs.reasons.reasons_text.Goals as goal

pub returns : goal.returns
returns c = c.text_of_each.ensures (because_of c.args.plan.now c.args.explained.now) (λ x r post. search rules)
