use Rattle.std.proofs.Common.{map}
use Rattle.serde_json.specs.View.{view}
use Rattle.dds_json.specs.Matching.{writer_pairs}
use Rattle.dds_json.proofs.Documents.{those_more}
use Rattle.dds_json.proofs.matching.pairs_of.Goals as goal

pub loop-w-preserved : goal.loop-w-preserved
loop-w-preserved c =
    those_more (writer_pairs c.args.plan.now c.readers-readers.result) c.loop-w.w (map view c.loop-w.documents.items) (map view c.push_writer.new.documents.items)
    c.loop-w.invariant (rw c.new.ensures at c.in_ok-push_writer.ensures)
