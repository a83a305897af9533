use Rattle.std.proofs.Common.{refl, subst, sym}
use Rattle.dds_lists.specs.Lists.{Lists}
use Rattle.dds_deploy.specs.Document.{read}
use Rattle.dds_answers.specs.Outcome.{accepted}
use Rattle.dds_tool.specs.Outcome.{IsSound}
use Rattle.dds_tool.specs.RunEnds.{MayRun, ran}
use Rattle.dds_tool.specs.declared.outcome.Outcome.TheVariants as outcome
use Rattle.dds_tool.proofs.RunGives.{same_read}
use Rattle.dds_tool.proofs.running.play.Goals as goal

pub returns-in-Ok-clause-comes : goal.returns-in-Ok-clause-comes
returns-in-Ok-clause-comes g c = λ names style.
    let d = c.args.checked.plan in
    let wishes = c.args.wishes.now in
    let journal = c.in_ok-journal.journal in
    let ends = c.in_ok-journal.ends in
    let same = same_read (read c.args.deployment.now) d c.in-Ok.plan c.requires.plan c.in-Ok.ensures.plan in
    subst
    (λ (l : Lists). IsSound (outcome.Ran l journal ends wishes.good wishes.detail)
    × MayRun wishes style (accepted d c.args.checked.certificate) (ran wishes.good wishes.detail style l journal ends.items)) (sym same)
    ((c.in_ok-journal.ensures.journal, c.in_ok-journal.ensures.ends), (journal, ends.items, c.in_ok-journal.ensures.journal, c.in_ok-journal.ensures.ends, refl))
