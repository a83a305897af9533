use Rattle.std.proofs.Common.{◌≤◌, drop, length}
use Rattle.dds_check.specs.Tables.{ShowsBounds}
use Rattle.dds_check.proofs.bounds.bound_cells.Given as goal

abbrev pub invariant-loop-i : goal.invariant-loop-i
invariant-loop-i l = (l.i ≤ length l.entries) × ShowsBounds l.reader l.cells (drop l.i l.entries)

abbrev pub decreases-loop-i : goal.decreases-loop-i
decreases-loop-i l = l.i
