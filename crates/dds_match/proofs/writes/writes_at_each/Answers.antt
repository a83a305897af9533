use Rattle.std.proofs.Common.{length, arith}
use Rattle.dds_match.specs.Writes.{writes_at}
use Rattle.dds_match.proofs.EachPlace.{at_each_place}
use Rattle.dds_match.proofs.Brought.{no_writer_writes}
use Rattle.dds_match.proofs.writes.writes_at_each.Goals as goal

pub returns : goal.returns
returns c = at_each_place (writes_at c.args.lists.now) c.loop-w.all.items (length c.args.lists.now.writers.entries) (omega arith)
    (λ i below. c.loop-w.invariant.1 i (omega arith)) (no_writer_writes c.args.lists.now c.requires)
