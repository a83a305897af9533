use Rattle.std.proofs.Common.{◌∙◌}
use Rattle.dds_check.proofs.Outside.{weight_as}
use Rattle.dds_explain.proofs.weights.take_weight.Goals as goal

pub returns : goal.returns
returns c = c.find_weight.ensures ∙ weight_as _ _ _ _ c.deref.ensures.value
