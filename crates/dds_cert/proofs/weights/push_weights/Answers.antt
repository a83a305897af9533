use Rattle.std.proofs.Common.{refl}
use Rattle.dds_cert.specs.Weights.{weight_place}
use Rattle.dds_cert.proofs.KeyLaws.{not_placed}
use Rattle.dds_cert.proofs.weights.push_weights.Goals as goal

pub push-requires : goal.push-requires
push-requires g c =
    rw c.loop-key.invariant
    (not_placed (weight_place g.E.Endpoint.number_of) (g.E.Endpoint.number_of c.args.endpoint) (λ k. record { endpoint = c.args.endpoint; key = k; weight = c.args.weight }) (λ k. refl) c.args.all.now.items.items c.args.keys.now c.loop-key.key-index c.key-item.result c.requires.new c.requires.distinct c.loop-key-test.true c.key-item.is)
