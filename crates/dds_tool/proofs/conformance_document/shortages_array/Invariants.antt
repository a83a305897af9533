use Rattle.std.proofs.Common.{◌≡◌, map, take}
use Rattle.serde_json.specs.View.{view}
use Rattle.dds_tool.specs.Conforming.{shortage_document}
use Rattle.dds_tool.proofs.conformance_document.shortages_array.Given as goal

-- the documents of what is lacked so far
abbrev pub invariant-loop-one : goal.invariant-loop-one
invariant-loop-one l = map view l.documents.items ≡ map (shortage_document l.lists) (take l.one-index l.short)
