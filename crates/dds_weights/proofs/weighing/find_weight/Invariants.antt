use Rattle.std.proofs.Common.{◌≡◌, drop}
use Rattle.dds_weights.specs.Weighing.{weight_by}
use Rattle.dds_weights.proofs.weighing.find_weight.Given as goal

-- no weight so far is one of the key
abbrev pub invariant-loop-x : goal.invariant-loop-x
invariant-loop-x g l =
    weight_by g.E.Endpoint.number_of l.weights (g.E.Endpoint.number_of l.endpoint) l.key ≡ weight_by g.E.Endpoint.number_of (drop l.x-index l.weights) (g.E.Endpoint.number_of l.endpoint) l.key
