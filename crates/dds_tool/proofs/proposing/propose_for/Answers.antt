use Rattle.std.proofs.Common.{Ok, option_map, refl}
use Rattle.dds_weights.specs.Views.{certificate_view}
use Rattle.dds_answers.specs.Proposals.{MayPropose, proposal_end}
use Rattle.dds_answers.proofs.Proposals.{may_propose}
use Rattle.dds_tool.specs.Commands.{MayInStyle}
use Rattle.dds_tool.proofs.Outcomes.{memory_comes}
use Rattle.dds_tool.proofs.proposing.propose_for.Goals as goal

pub returns-in-Ok-clause-comes : goal.returns-in-Ok-clause-comes
returns-in-Ok-clause-comes c = λ names style. (
  tt,
  (
    proposal_end c.args.plan (option_map certificate_view c.in-Ok.certificate),
    may_propose c.args.plan c.in-Ok.certificate c.in-Ok.ensures.fits c.in-Ok.ensures.accepted c.in-Ok.ensures.proposal,
    refl,
  ),
)

pub returns-in-Err-clause-comes : goal.returns-in-Err-clause-comes
returns-in-Err-clause-comes c = λ names style. memory_comes ⊥ (MayInStyle style (MayPropose (Ok c.args.plan))) names style
