use Rattle.dds_match.specs.Plan.{network_of}
use Rattle.dds_domain.specs.Opening.{ReaderOpens}
use Rattle.dds_domain.proofs.Opened.{all_more, count_more}
use Rattle.dds_domain.proofs.opening.readers.Goals as goal

pub loop-r-preserved : goal.loop-r-preserved
loop-r-preserved c = record {
  count = count_more _ _ _ c.in_ok-reader.field-0 c.loop-r.invariant.count c.in_ok-push.ensures.items;
  each = all_more (ReaderOpens (network_of c.args.plan.now)) _ _ _ _ c.in_ok-reader.field-0 c.loop-r.invariant.each c.loop-r.invariant.count c.new.ensures c.in_ok-reader.ensures c.in_ok-push.ensures.items;
}
