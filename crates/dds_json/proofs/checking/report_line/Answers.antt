use Rattle.std.proofs.Common.{◌∙◌, ap, option_map, string_bytes}
use Rattle.serde_json.specs.Written.{has_float}
use Rattle.dds_json.proofs.Documents.{report_plain}
use Rattle.dds_json.proofs.checking.report_line.Goals as goal

pub line_of-requires : goal.line_of-requires
line_of-requires c = ap has_float c.in_ok-document.ensures ∙ report_plain c.args.report.now (option_map string_bytes c.in_ok-because.because)
