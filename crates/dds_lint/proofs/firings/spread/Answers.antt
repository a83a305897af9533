use Rattle.dds_match.specs.Plan.{network_of}
use Rattle.dds_lint.specs.Firings.{share}
use Rattle.dds_lint.proofs.FiringLaws.{readers_more, readers_rest}
use Rattle.dds_lint.proofs.firings.spread.Goals as goal

pub loop-r-preserved : goal.loop-r-preserved
loop-r-preserved c = record {
  len = c.add_write.ensures.len;
  added = readers_more (λ r k. share (network_of c.args.plan.now) r k c.args.write.now) c.add_write.new.cells c.loop-r.cells c.args.cells.now c.loop-r.r c.new.result c.args.times c.new.ensures
      c.add_write.ensures.added c.add_write.ensures.others c.loop-r.invariant.added c.loop-r.invariant.others;
  others = readers_rest c.add_write.new.cells c.loop-r.cells c.args.cells.now c.loop-r.r c.new.result c.new.ensures c.add_write.ensures.others c.loop-r.invariant.others;
}
