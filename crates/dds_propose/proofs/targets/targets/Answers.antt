use Rattle.std.proofs.Common.{[]}
use Rattle.dds_match.specs.Plan.{network_of}
use Rattle.dds_propose.specs.Targets.{reader_targets}
use Rattle.dds_propose.proofs.Entries.{and_next}
use Rattle.dds_propose.proofs.targets.targets.Goals as goal

pub loop-r-preserved : goal.loop-r-preserved
loop-r-preserved c =
    and_next (reader_targets (network_of c.args.plan.now)) c.loop-r.r [] c.loop-r.targets.items _ c.loop-r.invariant (rw c.new.ensures at c.in_ok-add_reader.ensures)
