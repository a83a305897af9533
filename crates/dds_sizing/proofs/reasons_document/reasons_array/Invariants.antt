use Rattle.std.proofs.Common.{◌≡◌, map, take}
use Rattle.serde_json.specs.View.{view}
use Rattle.dds_sizing.specs.ReasonsDocument.{reason_document}
use Rattle.dds_sizing.proofs.reasons_document.reasons_array.Given as goal

-- the documents of the needs so far
abbrev pub invariant-loop-need : goal.invariant-loop-need
invariant-loop-need l = map view l.documents.items ≡ map (reason_document l.plan l.explained) (take l.need-index l.needs)
