use Rattle.std.proofs.Common.{◌∙◌, ap}
use Rattle.serde_json.specs.Written.{has_float}
use Rattle.dds_tool.proofs.Refutes.{known_plain}
use Rattle.dds_tool.proofs.refute_document.known_line.Goals as goal

pub line_of-requires : goal.line_of-requires
line_of-requires c = ap has_float c.in_ok-document.ensures ∙ known_plain c.args.plan.now c.args.refutation.now
