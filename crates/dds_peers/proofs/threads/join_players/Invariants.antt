use Rattle.std.proofs.Common.{◌≡◌, ◌≤◌, ◌+◌, ◌++◌, length, map, All}
use Rattle.std.specs.Vec.{vec_len, vec_capacity}
use Rattle.std.specs.Vec.Iter.{into_iter_items, into_iter_len}
use Rattle.dds_apps.specs.Kept.{IsKept}
use Rattle.dds_peers.proofs.ListLaws.{Walks}
use Rattle.dds_peers.proofs.threads.join_players.Given as goal

abbrev pub invariant-loop-handle : goal.invariant-loop-handle
invariant-loop-handle g l = record {
  can_next : (goal.iterator-loop-handle g).can_next l.handle-iterator;
  is_finite : (goal.iterator-loop-handle g).is_finite l.handle-iterator;
  walk : Walks l.fn.handles.items l.yielded (into_iter_items l.handle-iterator) (into_iter_len l.handle-iterator);
  room : vec_len l.players + into_iter_len l.handle-iterator ≤ vec_capacity l.players;
  numbers : map (λ p. p.seat.number) l.players.items ≡ map (λ h. h.promise.app) l.yielded;
  identities : map (λ p. g.A.App.identity p.app) l.players.items ≡ map (λ h. g.A.App.identity h.promise.was.value) l.yielded;
  players : All (λ p. IsKept l.fn._gauge l.fn._fresh p.seat p.counter (g.A.App.notes p.app).entries) l.players.items;
}
