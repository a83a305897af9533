use Rattle.std.proofs.Common.{◌≡◌, ◌∙◌, ap}
use Rattle.dds_lists.specs.Lists.{Lists}
use Rattle.dds_text.specs.Names.{reader_name}
use Rattle.dds_explain.proofs.premises.soon_line.Goals as goal

pub returns-in_ok-span-in-Some : goal.returns-in_ok-span-in-Some
returns-in_ok-span-in-Some c =
    let name : c.reader_name-name.result.now ≡ reader_name c.args.plan.now c.args.reader =
    c.reader_name-name.ensures ∙ ap (λ (d : Lists). reader_name d c.args.reader) c.lists.ensures.value in
    rw c.in-Some.is (rw (name, c.in_ok-span-in-Some.ensures) at c.format.ensures.ok)
