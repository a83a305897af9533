use Rattle.std.proofs.Common.{refl, sym}
use Rattle.dds_weights.specs.Named.{bound_place}
use Rattle.dds_weights.proofs.NamedLaws.{none_shown, more_shown, twice_shown}
use Rattle.dds_weights.proofs.named.bounds_name_nothing_twice.Goals as goal

pub loop-bound-init : goal.loop-bound-init
loop-bound-init c = none_shown bound_place c.args.bounds.now 16384 refl

pub returns-then-seen-place : goal.returns-then-seen-place
returns-then-seen-place c =
    sym (twice_shown bound_place c.args.bounds.now c.requires c.loop-bound.seen c.loop-bound.bound-index c.bound-item.result c.number.result c.number-in-loop-bound.result _ c.loop-bound-test.true c.bound-item.is c.number.ensures c.number-in-loop-bound.ensures c.loop-bound.invariant c.if-seen-place.true)

pub loop-bound-preserved : goal.loop-bound-preserved
loop-bound-preserved c =
    more_shown bound_place c.args.bounds.now c.requires c.loop-bound.seen c.loop-bound.bound-index c.bound-item.result c.number.result c.number-in-loop-bound.result _ c.loop-bound-test.true c.bound-item.is c.number.ensures c.number-in-loop-bound.ensures c.loop-bound.invariant c.if-seen-place.false
