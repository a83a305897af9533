use Rattle.std.proofs.Common.{◌≡◌, ◌++◌, flat_map}
use Rattle.std.specs.List.{range_with_len}
use Rattle.dds_show.specs.Connections.{pair_at}
use Rattle.dds_show.proofs.connections.push_pairs_of_writer.Given as goal

-- the pairs of the readers so far are added
abbrev pub invariant-loop-r : goal.invariant-loop-r
invariant-loop-r l = l.found.items ≡ l.initial.found.items ++ flat_map (pair_at l.plan l.w) (range_with_len 0 l.r)
