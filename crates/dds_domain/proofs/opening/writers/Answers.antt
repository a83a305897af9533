use Rattle.dds_match.specs.Plan.{network_of}
use Rattle.dds_domain.specs.Opening.{WriterOpens}
use Rattle.dds_domain.proofs.Opened.{all_more, count_more}
use Rattle.dds_domain.proofs.opening.writers.Goals as goal

pub loop-w-preserved : goal.loop-w-preserved
loop-w-preserved c = record {
  count = count_more _ _ _ c.in_ok-writer.field-0 c.loop-w.invariant.count c.in_ok-push.ensures.items;
  each = all_more (WriterOpens (network_of c.args.plan.now)) _ _ _ _ c.in_ok-writer.field-0 c.loop-w.invariant.each c.loop-w.invariant.count c.new.ensures c.in_ok-writer.ensures c.in_ok-push.ensures.items;
}
