use Rattle.std.proofs.Common.{length, arith}
use Rattle.dds_match.specs.Plan.{participant_readers}
use Rattle.dds_match.proofs.EachPlace.{at_each_place, no_participant_reads}
use Rattle.dds_match.proofs.neighbours.readers_at_each.Goals as goal

pub returns : goal.returns
returns c = at_each_place (participant_readers c.args.lists.now) c.loop-p.all.items (length c.args.lists.now.participants.entries) (omega arith)
    (λ i below. c.loop-p.invariant.1 i (omega arith)) (no_participant_reads c.args.lists.now c.requires)
