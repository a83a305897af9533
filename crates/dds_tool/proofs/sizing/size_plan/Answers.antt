use Rattle.std.proofs.Common.{Ok}
use Rattle.dds_sizing.specs.Limits.{MayLimit}
use Rattle.dds_sizing.proofs.LimitEnds.{limits_may}
use Rattle.dds_tool.proofs.Outcomes.{memory_comes}
use Rattle.dds_tool.proofs.sizing.size_plan.Goals as goal

pub returns-in-Ok-clause-comes : goal.returns-in-Ok-clause-comes
returns-in-Ok-clause-comes g c = λ names style. (tt, limits_may c.args.what style c.args.plan c.in-Ok.report c.in-Ok.ensures)

pub returns-in-Err-clause-comes : goal.returns-in-Err-clause-comes
returns-in-Err-clause-comes g c = λ names style. memory_comes ⊥ (MayLimit c.args.what style (Ok c.args.plan)) names style
