use Rattle.std.proofs.Common.{◌≡◌, map, string_bytes}
use Rattle.std.specs.List.{range_with_len}
use Rattle.serde_json.specs.View.{view}
use Rattle.dds_tool.specs.RunDocument.{document_at}
use Rattle.dds_tool.proofs.run_document.app_documents.Given as goal

-- the documents of the applications so far
abbrev pub invariant-loop-app : goal.invariant-loop-app
invariant-loop-app l = map view l.documents.items ≡ map (document_at (map string_bytes l.names) l.journal l.ends) (range_with_len 0 l.app)
