use Rattle.std.proofs.Common.{◌≡◌, ◌∙◌, ap}
use Rattle.dds_lists.specs.Lists.{Lists}
use Rattle.dds_text.specs.Names.{writer_key, writer_name}
use Rattle.dds_explain.proofs.rows.write_line.Goals as goal

pub returns : goal.returns
returns c =
    let key : c.writer_key-key.result.now ≡ writer_key c.args.plan.now c.args.writer c.args.key =
    c.writer_key-key.ensures ∙ ap (λ (d : Lists). writer_key d (c.args.writer) (c.args.key)) c.lists.ensures.value in
    let name : c.writer_name-name.result.now ≡ writer_name c.args.plan.now c.args.writer = c.writer_name-name.ensures ∙ ap (λ (d : Lists). writer_name d c.args.writer) c.lists-2.ensures.value in
    rw (c.as_str-row.ensures.value, key, name, c.spread-spread.ensures, c.in_ok-permit.ensures) at c.format.ensures.ok
