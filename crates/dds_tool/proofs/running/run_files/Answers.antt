use Rattle.std.proofs.Common.{◌≡◌, Ok, refl, subst, sym}
use Rattle.dds_answers.specs.Outcome.{Outcome, outcome}
use Rattle.dds_tool.specs.Outcome.{ComesTo}
use Rattle.dds_tool.specs.RunEnds.{IsAccepted, MayRun}
use Rattle.dds_tool.proofs.RunGives.{accepted_read, told_comes}
use Rattle.dds_tool.proofs.running.run_files.Goals as goal

pub play-requires-clause-plan : goal.play-requires-clause-plan
play-requires-clause-plan g c κs within =
    accepted_read c.args.deployment.now c.args.certificate.now c.in-Ok-Yes.checked.plan c.in-Ok-Yes.checked.certificate (rw c.in-Ok-Yes.field-0-is at c.in-Ok-Yes.ensures)

pub returns-in-Ok-Yes-clause-comes : goal.returns-in-Ok-Yes-clause-comes
returns-in-Ok-Yes-clause-comes g c = λ names style.
    subst (λ (o : Outcome). ComesTo names style (IsAccepted o) (MayRun c.args.wishes.now style o) c.play.result) (sym (rw c.in-Ok-Yes.field-0-is at c.in-Ok-Yes.ensures)) (c.play.ensures.comes names style)

pub returns-in-Ok-Refused-clause-comes : goal.returns-in-Ok-Refused-clause-comes
returns-in-Ok-Refused-clause-comes g c = λ names style.
    subst (λ (o : Outcome). ComesTo names style (IsAccepted o) (MayRun c.args.wishes.now style o) (Ok c.refusal.result)) (sym (rw c.in-Ok-Refused.field-0-is at c.in-Ok-Refused.ensures)) (rw c.refusal.ensures (tt, refl))

pub returns-in-Err-clause-comes : goal.returns-in-Err-clause-comes
returns-in-Err-clause-comes g c = told_comes c.args.wishes.now (outcome c.args.deployment.now c.args.certificate.now) c.in-Err.fault c.in-Err.ensures
