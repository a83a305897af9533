use Rattle.std.proofs.Common.{◌≡◌, ◌++◌, take}
use Rattle.dds_cert.specs.Weights.{weights_of}
use Rattle.dds_cert.proofs.weights.push_weights.Given as goal

abbrev pub invariant-loop-key : goal.invariant-loop-key
invariant-loop-key g l = l.all.items.items ≡ l.initial.all.items.items ++ weights_of (l.endpoint, take l.key-index l.keys) l.weight
