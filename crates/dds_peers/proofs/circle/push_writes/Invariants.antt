use Rattle.std.proofs.Common.{◌≡◌, ◌++◌, filter}
use Rattle.std.specs.List.{flat_map, range_with_len}
use Rattle.dds_lists.specs.Lists.{has, writers_at}
use Rattle.dds_peers.specs.Steady.{writes_of}
use Rattle.dds_peers.proofs.circle.push_writes.Given as goal

abbrev pub invariant-loop-writer : goal.invariant-loop-writer
invariant-loop-writer l = l.circle.items ≡ l.initial.circle.items ++ flat_map (writes_of l.plan l.app) (filter (has (writers_at l.plan.applications l.app)) (range_with_len 0 l.writer))
