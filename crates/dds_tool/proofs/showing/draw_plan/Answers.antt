use Rattle.dds_tool.proofs.showing.draw_plan.Goals as goal

pub returns-in-Some-clause-comes : goal.returns-in-Some-clause-comes
returns-in-Some-clause-comes c = rw c.in-Some.is c.draw_with.ensures.comes
