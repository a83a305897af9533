use Rattle.std.proofs.Common.{[], string_bytes}
use Rattle.dds_text.proofs.TextLaws.{and_next}
use Rattle.dds_answers.specs.Matches.{writer_lines}
use Rattle.dds_answers.proofs.matches.match_text.Goals as goal

pub loop-w-preserved : goal.loop-w-preserved
loop-w-preserved c =
    and_next (writer_lines c.args.plan.now c.readers-readers.result) c.loop-w.w [] (string_bytes c.loop-w.text) (string_bytes c.push_writer.new.text)
    c.loop-w.invariant (rw c.new.ensures at c.in_ok-push_writer.ensures)
