use Rattle.dds_explain.proofs.shown.bound_lines.Goals as goal

pub returns : goal.returns
returns c = rw (c.in_ok-head.ensures, c.in_ok-terms.ensures) at c.format.ensures.ok
