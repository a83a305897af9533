use Rattle.std.proofs.Common.{rules, sym}
use Rattle.std.proofs.lemmas.List.Sorted.{answers_always}
use Rattle.dds_base.proofs.NumberedLaws.{halved_at, halved_nowhere}
use Rattle.dds_base.proofs.numbered.risen_place.Goals as goal

pub returns-in-Ok : goal.returns-in-Ok
returns-in-Ok g c =
    let found = c.in-Ok.ensures.position g.T.Numbered.number_of (answers_always _ _ _ (λ f a r h called. search rules)) in
    sym (halved_at g.T.Numbered.number_of c.args.entries.now c.requires c.args.number c.in-Ok.at c.in-Ok.ensures.bound found)

pub returns-in-Err : goal.returns-in-Err
returns-in-Err g c =
    let parted = c.in-Err.ensures.position g.T.Numbered.number_of (answers_always _ _ _ (λ f a r h called. search rules)) in
    sym (halved_nowhere g.T.Numbered.number_of c.args.entries.now c.requires c.args.number c.in-Err.field-0 parted)
