use Rattle.std.proofs.Common.{◌≤◌, ◌+◌}
use Rattle.std.specs.Vec.{vec_len, vec_capacity}
use Rattle.std.specs.Vec.Iter.{into_iter_len}
use Rattle.dds_peers.proofs.threads.start_carriers.Given as goal

abbrev pub invariant-loop-carrier : goal.invariant-loop-carrier
invariant-loop-carrier g l = record {
  can_next : (goal.iterator-loop-carrier g).can_next l.carrier-iterator;
  is_finite : (goal.iterator-loop-carrier g).is_finite l.carrier-iterator;
  room : vec_len l.handles + into_iter_len l.carrier-iterator ≤ vec_capacity l.handles;
}
