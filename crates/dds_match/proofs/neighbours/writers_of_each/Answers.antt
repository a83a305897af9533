use Rattle.std.proofs.Common.{length, arith}
use Rattle.dds_match.specs.Network.{matched_writers}
use Rattle.dds_match.specs.Plan.{network_of}
use Rattle.dds_match.proofs.EachPlace.{at_each_place, no_reader}
use Rattle.dds_match.proofs.neighbours.writers_of_each.Goals as goal

pub returns : goal.returns
returns c = at_each_place (matched_writers (network_of c.args.lists.now)) c.loop-r.all.items (length c.args.lists.now.readers.entries) (omega arith)
    (λ i below. c.loop-r.invariant.1 i (omega arith)) (no_reader c.args.lists.now)
