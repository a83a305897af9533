use Rattle.std.proofs.Common.{take}
use Rattle.dds_weights.specs.Named.{ShowsNamed, bound_place}
use Rattle.dds_weights.proofs.named.bounds_name_nothing_twice.Given as goal

abbrev pub invariant-loop-bound : goal.invariant-loop-bound
invariant-loop-bound l = ShowsNamed bound_place l.seen (take l.bound-index l.bounds)
