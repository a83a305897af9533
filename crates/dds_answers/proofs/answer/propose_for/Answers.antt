use Rattle.std.proofs.Common.{Ok, option_map}
use Rattle.dds_weights.specs.Views.{certificate_view}
use Rattle.dds_answers.specs.Proposals.{IsProposed, proposal_end}
use Rattle.dds_answers.proofs.Proposals.{may_propose, memory_ends}
use Rattle.dds_answers.proofs.answer.propose_for.Goals as goal

pub returns-in-Ok-clause-gives : goal.returns-in-Ok-clause-gives
returns-in-Ok-clause-gives c = (
  proposal_end c.args.plan (option_map certificate_view c.in-Ok.certificate),
  may_propose c.args.plan c.in-Ok.certificate c.in-Ok.ensures.fits c.in-Ok.ensures.accepted c.in-Ok.ensures.proposal,
  c.answer_proposal.ensures.gives,
)

pub returns-in-Err-clause-gives : goal.returns-in-Err-clause-gives
returns-in-Err-clause-gives c = memory_ends IsProposed (Ok c.args.plan)
