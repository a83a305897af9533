use Rattle.std.proofs.Common.{ap, refl, subst, sym}
use Rattle.dds_deploy.specs.Document.{read}
use Rattle.dds_answers.specs.Answers.{Gives}
use Rattle.dds_answers.specs.Outcome.{comparison, match_outcome}
use Rattle.dds_answers.proofs.Unread.{unread_gives}
use Rattle.dds_answers.proofs.answer.match_answer.Goals as goal

pub returns-clause-gives : goal.returns-clause-gives
unfolding match_outcome
returns-clause-gives c = subst (Gives c.answer_pairs.result) (sym (ap comparison c.in_ok-plan.ensures.plan)) c.answer_pairs.ensures.gives

pub returns-in_err-plan-clause-gives : goal.returns-in_err-plan-clause-gives
unfolding match_outcome
returns-in_err-plan-clause-gives c =
    unread_gives comparison (λ flaw. refl) (read c.args.deployment.now) c.from_residual.result c.in_err-plan.field-0.0 c.from_residual.ensures.1 c.in_err-plan.ensures.fault
