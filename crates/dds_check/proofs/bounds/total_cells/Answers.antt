use Rattle.std.proofs.Common.{arith, refl}
use Rattle.dds_check.proofs.Empty.{no_totals}
use Rattle.dds_check.proofs.bounds.total_cells.Goals as goal

pub loop-i-init : goal.loop-i-init
loop-i-init c = (omega arith, no_totals 256 c.args.entries.now refl)
