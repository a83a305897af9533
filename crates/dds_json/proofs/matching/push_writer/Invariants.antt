use Rattle.std.proofs.Common.{◌≡◌, ◌++◌, map}
use Rattle.std.specs.List.{range_with_len}
use Rattle.serde_json.specs.View.{view}
use Rattle.dds_json.specs.Matching.{pair_document}
use Rattle.dds_json.proofs.matching.push_writer.Given as goal

-- the pairs of the readers so far are added
abbrev pub invariant-loop-r : goal.invariant-loop-r
invariant-loop-r l = map view l.documents.items ≡ map view l.initial.documents.items ++ map (pair_document l.plan l.writer) (range_with_len 0 l.r)
