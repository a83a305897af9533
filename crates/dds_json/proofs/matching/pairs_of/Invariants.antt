use Rattle.std.proofs.Common.{◌≡◌, map}
use Rattle.serde_json.specs.View.{view}
use Rattle.dds_json.specs.Matching.{pairs}
use Rattle.dds_json.proofs.matching.pairs_of.Given as goal

-- the pairs of the writers so far
abbrev pub invariant-loop-w : goal.invariant-loop-w
invariant-loop-w l = map view l.documents.items ≡ pairs l.plan l.w l.readers
