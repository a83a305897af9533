use Rattle.std.proofs.Common.{◌∙◌, ap}
use Rattle.serde_json.specs.Written.{has_float}
use Rattle.dds_findings.proofs.Plain.{sarif_plain}
use Rattle.dds_findings.proofs.sarif.sarif_line.Goals as goal

pub line_of-requires : goal.line_of-requires
line_of-requires c = ap has_float c.in_ok-document.ensures ∙ sarif_plain c.args.names.now c.args.deny.now c.args.findings.now
