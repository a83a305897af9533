use Rattle.std.proofs.Common.{◌≡◌, ◌++◌, map, filter}
use Rattle.std.specs.List.{range_with_len}
use Rattle.dds_peers.specs.Steady.{is_written, write_step}
use Rattle.dds_peers.proofs.circle.push_writes_of.Given as goal

abbrev pub invariant-loop-key : goal.invariant-loop-key
invariant-loop-key l = l.circle.items ≡ l.initial.circle.items ++ map (write_step l.plan l.writer) (filter (is_written l.plan l.app l.writer) (range_with_len 0 l.key))
