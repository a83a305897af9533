use Rattle.std.proofs.Common.{arith, refl}
use Rattle.dds_check.proofs.Empty.{no_bounds}
use Rattle.dds_check.proofs.bounds.bound_cells.Goals as goal

pub loop-i-init : goal.loop-i-init
loop-i-init c = (omega arith, no_bounds c.args.reader 64 c.args.entries.now refl)
