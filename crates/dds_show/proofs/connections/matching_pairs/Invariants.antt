use Rattle.std.proofs.Common.{◌≡◌, flat_map}
use Rattle.std.specs.List.{range_with_len}
use Rattle.dds_show.specs.Connections.{pairs_of_writer}
use Rattle.dds_show.proofs.connections.matching_pairs.Given as goal

-- the pairs of the writers so far
abbrev pub invariant-loop-w : goal.invariant-loop-w
invariant-loop-w l = l.found.items ≡ flat_map (pairs_of_writer l.plan) (range_with_len 0 l.w)
