use Rattle.std.proofs.Common.{◌∙◌, ap}
use Rattle.serde_json.specs.Written.{has_float}
use Rattle.dds_sizing.proofs.LimitEnds.{limits_plain}
use Rattle.dds_sizing.proofs.limits_document.limits_line.Goals as goal

pub line_of-requires : goal.line_of-requires
line_of-requires c = ap has_float c.in_ok-document.ensures ∙ limits_plain c.args.lists.now c.args.needs.now
