use Rattle.std.proofs.Common.{[]}
use Rattle.dds_match.specs.Plan.{network_of}
use Rattle.dds_flights.specs.Standing.{FlightsStand}
use Rattle.dds_domain.proofs.Opened.{all_more, count_more}
use Rattle.dds_domain.proofs.opening.flights.Goals as goal

pub loop-w-preserved : goal.loop-w-preserved
loop-w-preserved c = record {
  count = count_more _ _ _ c.in_ok-open.field-0 c.loop-w.invariant.count c.in_ok-push.ensures.items;
  each = all_more (λ w fs. FlightsStand (network_of c.args.plan.now) w [] (λ r k. 0) fs) _ _ _ _ c.in_ok-open.field-0 c.loop-w.invariant.each c.loop-w.invariant.count c.new.ensures c.in_ok-open.ensures c.in_ok-push.ensures.items;
}
