use Rattle.std.proofs.Common.{length, arith}
use Rattle.dds_match.specs.Network.{matched_readers}
use Rattle.dds_match.specs.Plan.{network_of}
use Rattle.dds_match.proofs.EachPlace.{at_each_place, no_writer}
use Rattle.dds_match.proofs.neighbours.readers_of_each.Goals as goal

pub returns : goal.returns
returns c = at_each_place (matched_readers (network_of c.args.lists.now)) c.loop-w.all.items (length c.args.lists.now.writers.entries) (omega arith)
    (λ i below. c.loop-w.invariant.1 i (omega arith)) (no_writer c.args.lists.now)
