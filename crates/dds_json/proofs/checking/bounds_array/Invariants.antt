use Rattle.std.proofs.Common.{◌≡◌, map, take}
use Rattle.serde_json.specs.View.{view}
use Rattle.dds_json.specs.Checking.{bound_document}
use Rattle.dds_json.proofs.checking.bounds_array.Given as goal

-- the documents of the bounds so far
abbrev pub invariant-loop-bound : goal.invariant-loop-bound
invariant-loop-bound l = map view l.documents.items ≡ map (bound_document l.lists) (take l.bound-index l.bounds)
