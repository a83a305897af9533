use Rattle.std.proofs.Common.{refl, sym}
use Rattle.dds_weights.proofs.NamedLaws.{none_shown, more_shown, twice_shown}
use Rattle.dds_weights.proofs.named.weights_name_nothing_twice.Goals as goal

pub loop-weight-init : goal.loop-weight-init
loop-weight-init g c = none_shown (λ x. (g.E.Endpoint.number_of x.endpoint, x.key)) c.args.weights.now 16384 refl

pub returns-then-seen-place : goal.returns-then-seen-place
returns-then-seen-place g c =
    sym (twice_shown (λ x. (g.E.Endpoint.number_of x.endpoint, x.key)) c.args.weights.now c.requires c.loop-weight.seen c.loop-weight.weight-index c.weight-item.result c.place.result c.number.result _ c.loop-weight-test.true c.weight-item.is c.place.ensures c.number.ensures c.loop-weight.invariant c.if-seen-place.true)

pub loop-weight-preserved : goal.loop-weight-preserved
loop-weight-preserved g c =
    more_shown (λ x. (g.E.Endpoint.number_of x.endpoint, x.key)) c.args.weights.now c.requires c.loop-weight.seen c.loop-weight.weight-index c.weight-item.result c.place.result c.number.result _ c.loop-weight-test.true c.weight-item.is c.place.ensures c.number.ensures c.loop-weight.invariant c.if-seen-place.false
