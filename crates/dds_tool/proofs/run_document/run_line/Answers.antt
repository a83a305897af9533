use Rattle.std.proofs.Common.{◌∙◌, ap, map, string_bytes}
use Rattle.std.specs.Prelude.{option_map}
use Rattle.serde_json.specs.Written.{has_float}
use Rattle.dds_tool.proofs.RunDocuments.{run_plain}
use Rattle.dds_tool.proofs.run_document.run_line.Goals as goal

pub line_of-requires : goal.line_of-requires
line_of-requires c = ap has_float c.in_ok-document.ensures ∙ run_plain c.args.is_yes (option_map string_bytes c.args.because.now) (map string_bytes c.args.names.now) c.args.journal.now c.args.ends.now
