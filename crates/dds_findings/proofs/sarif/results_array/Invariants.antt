use Rattle.std.proofs.Common.{◌≡◌, map, take}
use Rattle.serde_json.specs.View.{view}
use Rattle.dds_findings.specs.Documents.{result_document}
use Rattle.dds_findings.proofs.sarif.results_array.Given as goal

-- the results so far
abbrev pub invariant-loop-finding : goal.invariant-loop-finding
invariant-loop-finding l = map view l.documents.items ≡ map (result_document l.names l.deny) (take l.finding-index l.findings)
