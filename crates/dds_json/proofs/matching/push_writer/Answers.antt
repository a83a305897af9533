use Rattle.std.proofs.Common.{◌∙◌, ap, map}
use Rattle.serde_json.specs.View.{view}
use Rattle.dds_json.specs.Matching.{pair_document}
use Rattle.dds_json.proofs.Documents.{one_more}
use Rattle.dds_json.proofs.matching.push_writer.Goals as goal

pub loop-r-preserved : goal.loop-r-preserved
loop-r-preserved c =
    one_more view (pair_document c.args.plan.now c.args.writer) c.loop-r.r (map view c.args.documents.now.items) c.loop-r.documents.items c.push.new.self.items c.in_ok-pair_document.field-0
    c.loop-r.invariant c.in_ok-push.ensures.items (c.in_ok-pair_document.ensures ∙ ap (pair_document c.args.plan.now c.args.writer) c.new.ensures)
