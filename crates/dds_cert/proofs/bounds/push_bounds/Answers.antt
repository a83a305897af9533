use Rattle.std.proofs.Common.{refl}
use Rattle.dds_weights.specs.Named.{bound_place}
use Rattle.dds_cert.proofs.KeyLaws.{not_placed}
use Rattle.dds_cert.proofs.bounds.push_bounds.Goals as goal

pub push-requires : goal.push-requires
push-requires c =
    rw c.loop-key.invariant
    (not_placed bound_place c.args.reader (λ k. record { reader = c.args.reader; key = k; row = c.args.row; bound = c.args.bound }) (λ k. refl) c.args.all.now.items.items c.args.keys.now c.loop-key.key-index c.key-item.result c.requires.new c.requires.distinct c.loop-key-test.true c.key-item.is)
