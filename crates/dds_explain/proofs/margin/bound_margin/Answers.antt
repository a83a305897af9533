use Rattle.dds_explain.proofs.margin.bound_margin.Goals as goal

pub returns-in-Some : goal.returns-in-Some
returns-in-Some c = rw (c.in-Some.ensures.some.0, ← c.budgets.view_is) c.bound_line.ensures
