use Rattle.std.proofs.Common.{◌≡◌, ◌∙◌, ap}
use Rattle.dds_lists.specs.Lists.{Lists}
use Rattle.dds_text.specs.Names.{reader_key, reader_name}
use Rattle.dds_explain.proofs.shown.bound_claim.Goals as goal

pub returns : goal.returns
returns c =
    let key : c.reader_key-key.result.now ≡ reader_key c.args.plan.now c.args.bound.now.reader c.args.bound.now.key =
    c.reader_key-key.ensures ∙ ap (λ (d : Lists). reader_key d (c.args.bound.now.reader) (c.args.bound.now.key)) c.lists.ensures.value in
    let name : c.reader_name-name.result.now ≡ reader_name c.args.plan.now c.args.bound.now.reader = c.reader_name-name.ensures ∙ ap (λ (d : Lists). reader_name d c.args.bound.now.reader) c.lists-2.ensures.value in
    rw (key, name) at c.format.ensures.ok
