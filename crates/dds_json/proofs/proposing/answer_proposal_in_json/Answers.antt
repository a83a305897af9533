use Rattle.std.proofs.Common.{Result, subst}
use Rattle.dds_answers.specs.declared.answer.Answer.{Answer}
use Rattle.dds_answers.specs.declared.fault.ToolFault.{ToolFault}
use Rattle.dds_answers.specs.Answers.{Gives}
use Rattle.dds_json.proofs.Ends.{ends_in_json, proposal_gives}
use Rattle.dds_json.proofs.proposing.answer_proposal_in_json.Goals as goal

pub returns-in-Ok-clause-gives : goal.returns-in-Ok-clause-gives
returns-in-Ok-clause-gives c = λ end ends gives. proposal_gives c.in-Ok.answer c.restate_in_json.result c.restate_in_json.ensures.gives c.restate_in_json.ensures.fault end ends (subst (λ (a : Result Answer ToolFault). Gives a end) c.in-Ok.is gives)

pub returns-in-Err-clause-gives : goal.returns-in-Err-clause-gives
returns-in-Err-clause-gives c = λ end ends gives. ends_in_json c.in-Err.fault end (subst (λ (a : Result Answer ToolFault). Gives a end) c.in-Err.is gives)
