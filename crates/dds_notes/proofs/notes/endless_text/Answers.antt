use Rattle.std.proofs.Common.{◌≡◌, ◌∙◌, ap, string_bytes}
use Rattle.dds_lists.specs.Lists.{Lists}
use Rattle.dds_text.specs.Names.{reader_name, rule_text}
use Rattle.dds_notes.proofs.notes.endless_text.Goals as goal

pub returns : goal.returns
returns c =
    let reader : c.reader_name-reader.result.now ≡ reader_name c.args.plan.now c.args.endless.reader =
    c.reader_name-reader.ensures ∙ ap (λ (d : Lists). reader_name d c.args.endless.reader) c.lists.ensures.value in
    let rule : string_bytes c.in_ok-rule.rule ≡ rule_text c.args.plan.now c.args.endless.rule =
    c.in_ok-rule.ensures ∙ ap (λ (d : Lists). rule_text d c.args.endless.rule) c.lists-2.ensures.value in
    rw (rule, reader) at c.format.ensures.ok
