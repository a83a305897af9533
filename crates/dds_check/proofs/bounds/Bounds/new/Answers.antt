use Rattle.dds_check.proofs.bounds.Bounds.new.Goals as goal

pub invariant_of-result : goal.invariant_of-result
invariant_of-result c = (c.are_rising.ensures.0, c.bound_cells.ensures)
