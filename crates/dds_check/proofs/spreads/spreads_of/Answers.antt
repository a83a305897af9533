use Rattle.std.proofs.Common.{refl}
use Rattle.dds_match.specs.Plan.{network_of}
use Rattle.dds_runs.specs.Accepted.{row_of}
use Rattle.dds_check.proofs.Cells.{none_heard}
use Rattle.dds_check.proofs.spreads.spreads_of.Goals as goal

pub loop-r-init : goal.loop-r-init
loop-r-init c = none_heard (network_of c.args.plan.now) (row_of c.args.weights.now) c.args.key 256 refl c.readers_of-r-end.ensures.well_formed.writers.few
