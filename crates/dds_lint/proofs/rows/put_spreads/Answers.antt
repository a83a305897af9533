use Rattle.std.proofs.Common.{arith}
use Rattle.dds_match.specs.Plan.{network_of}
use Rattle.dds_runs.specs.Accepted.{row_of}
use Rattle.dds_lint.proofs.SpreadLaws.{filled_start, filled_all}
use Rattle.dds_lint.proofs.rows.put_spreads.Goals as goal

pub loop-w-init : goal.loop-w-init
loop-w-init c = filled_start (network_of c.args.plan.now) (row_of c.args.weights.now) c.args.key c.args.cells.now c.requires.cells

pub returns : goal.returns
returns c = filled_all (network_of c.args.plan.now) (row_of c.args.weights.now) c.args.key c.loop-w.w c.loop-w.cells (omega arith) c.loop-w.invariant
