use Rattle.std.proofs.Common.{arith, rules, sym}
use Rattle.std.proofs.lemmas.List.Sorted.{answers_always}
use Rattle.dds_base.proofs.NumberedLaws.{halved_at, halved_nowhere}
use Rattle.dds_writer.proofs.Found.{number}
use Rattle.dds_writer.proofs.history.History.place_at.Goals as goal

pub returns-in-Ok : goal.returns-in-Ok
returns-in-Ok c =
    let s = c.args.self.now in
    let long = s.kept.ok.0 in
    let within = c.in-Ok.ensures.bound in
    let found = c.in-Ok.ensures.position number (answers_always _ _ _ (λ f a r h called. search rules)) in
    sym (halved_at number s.kept.items s.rising c.args.sn c.in-Ok.at (omega (arith, long, within)) found)

pub returns-in-Err : goal.returns-in-Err
returns-in-Err c =
    let s = c.args.self.now in
    let parted = c.in-Err.ensures.position number (answers_always _ _ _ (λ f a r h called. search rules)) in
    sym (halved_nowhere number s.kept.items s.rising c.args.sn c.in-Err.field-0 parted)
