use Rattle.std.proofs.Common.{◌≡◌, map, take}
use Rattle.serde_json.specs.View.{view}
use Rattle.dds_json.specs.Checking.{total_document}
use Rattle.dds_json.proofs.checking.totals_array.Given as goal

-- the documents of the totals so far
abbrev pub invariant-loop-total : goal.invariant-loop-total
invariant-loop-total l = map view l.documents.items ≡ map (total_document l.lists) (take l.total-index l.totals)
