use Rattle.std.proofs.Common.{◌∙◌, sym}
use Rattle.std.proofs.lemmas.Result.{IfOk-weaker}
use Rattle.dds_qos.proofs.BaseLaws.{heartbeat_count_is}
use Rattle.dds_reader.specs.Marks.{in_marks}
use Rattle.dds_reader.proofs.held.Held.mark_below.Goals as goal

pub returns-clause-count : goal.returns-clause-count
returns-clause-count c =
    IfOk-weaker c.mark.result _ _ (λ lost is. is ∙ sym (heartbeat_count_is (in_marks c.args.self.now.marks c.args.writer) c.args.first)) c.mark.ensures.count
