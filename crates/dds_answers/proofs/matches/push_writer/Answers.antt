use Rattle.std.proofs.Common.{◌∙◌, ◌++◌, ap, string_bytes}
use Rattle.dds_text.proofs.TextLaws.{and_next}
use Rattle.dds_answers.specs.Matches.{pair_line}
use Rattle.dds_answers.proofs.matches.push_writer.Goals as goal

pub loop-r-preserved : goal.loop-r-preserved
loop-r-preserved c =
    and_next (pair_line c.args.plan.now c.args.writer) c.loop-r.r (string_bytes c.args.text.now) (string_bytes c.loop-r.text) (string_bytes c.push_str.new.self)
    c.loop-r.invariant (c.in_ok-push_str.ensures.bytes ∙ ap (λ line. string_bytes c.loop-r.text ++ line) (c.as_str.ensures.value ∙ (rw c.new.ensures at c.in_ok-line.ensures)))
