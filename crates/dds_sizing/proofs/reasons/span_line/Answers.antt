use Rattle.std.proofs.Common.{◌≡◌, ◌∙◌, ap}
use Rattle.dds_lists.specs.Lists.{Lists}
use Rattle.dds_text.specs.Names.{reader_name}
use Rattle.dds_sizing.proofs.reasons.span_line.Goals as goal

pub returns : goal.returns
returns c =
    let name : c.reader_name-reader.result.now ≡ reader_name c.args.plan.now c.args.reader =
    c.reader_name-reader.ensures ∙ ap (λ (d : Lists). reader_name d c.args.reader) c.lists.ensures.value in
    rw c.in-Some.is (rw (c.policy_word-word.ensures, name, c.in_ok-span.ensures) at c.format.ensures.ok)
