use Rattle.std.proofs.Common.{Ok}
use Rattle.dds_tool.specs.Refuting.{MayRefute}
use Rattle.dds_tool.proofs.Outcomes.{memory_comes}
use Rattle.dds_tool.proofs.Refutes.{may_refute}
use Rattle.dds_tool.proofs.refuting.refute_plan.Goals as goal

pub returns-in-Ok-clause-comes : goal.returns-in-Ok-clause-comes
returns-in-Ok-clause-comes g c = λ names style. (
  tt,
  may_refute style c.args.plan c.in-Ok.plan c.in-Ok.refutation c.in-Ok.ensures.plan c.in-Ok.ensures.unsafe_run c.in-Ok.ensures.unaccepted c.in-Ok.ensures.fits c.in-Ok.ensures.safe
      c.in-Ok.ensures.accepted c.in-Ok.ensures.structure,
)

pub returns-in-Err-clause-comes : goal.returns-in-Err-clause-comes
returns-in-Err-clause-comes g c = λ names style. memory_comes ⊥ (MayRefute style (Ok c.args.plan)) names style
