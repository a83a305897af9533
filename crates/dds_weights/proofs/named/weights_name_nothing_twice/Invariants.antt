use Rattle.std.proofs.Common.{take}
use Rattle.dds_weights.specs.Named.{ShowsNamed}
use Rattle.dds_weights.proofs.named.weights_name_nothing_twice.Given as goal

abbrev pub invariant-loop-weight : goal.invariant-loop-weight
invariant-loop-weight g l = ShowsNamed (λ x. (g.E.Endpoint.number_of x.endpoint, x.key)) l.seen (take l.weight-index l.weights)
