use Rattle.std.proofs.Common.{◌≡◌, ◌++◌, filter}
use Rattle.std.specs.List.{flat_map, range_with_len}
use Rattle.dds_lists.specs.Lists.{has, readers_at}
use Rattle.dds_peers.specs.Steady.{takes_of}
use Rattle.dds_peers.proofs.circle.push_takes.Given as goal

abbrev pub invariant-loop-reader : goal.invariant-loop-reader
invariant-loop-reader l = l.circle.items ≡ l.initial.circle.items ++ flat_map (takes_of l.lists) (filter (has (readers_at l.lists.applications l.app)) (range_with_len 0 l.reader))
