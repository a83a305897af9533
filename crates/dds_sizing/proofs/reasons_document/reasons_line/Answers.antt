use Rattle.std.proofs.Common.{◌∙◌, ap}
use Rattle.serde_json.specs.Written.{has_float}
use Rattle.dds_sizing.proofs.Explanations.{reasons_plain}
use Rattle.dds_sizing.proofs.reasons_document.reasons_line.Goals as goal

pub line_of-requires : goal.line_of-requires
line_of-requires c = ap has_float c.in_ok-document.ensures ∙ reasons_plain c.args.plan.now c.args.explained.now c.args.needs.now
