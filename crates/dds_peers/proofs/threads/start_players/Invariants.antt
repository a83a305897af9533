use Rattle.std.proofs.Common.{◌≡◌, ◌≤◌, ◌+◌, ◌++◌, length, map, All}
use Rattle.std.specs.Vec.{vec_len, vec_capacity}
use Rattle.std.specs.Vec.Iter.{into_iter_items, into_iter_len}
use Rattle.dds_peers.proofs.ListLaws.{Walks}
use Rattle.dds_peers.proofs.threads.start_players.Given as goal

abbrev pub invariant-loop-player : goal.invariant-loop-player
invariant-loop-player g l = record {
  can_next : (goal.iterator-loop-player g).can_next l.player-iterator;
  is_finite : (goal.iterator-loop-player g).is_finite l.player-iterator;
  walk : Walks l.fn.players.items l.yielded (into_iter_items l.player-iterator) (into_iter_len l.player-iterator);
  room : vec_len l.handles + into_iter_len l.player-iterator ≤ vec_capacity l.handles;
  len : vec_len l.handles + into_iter_len l.player-iterator ≡ vec_len l.fn.players;
  apps : map (λ h. h.promise.app) l.handles.items ≡ map (λ p. p.seat.number) l.yielded;
  identities : map (λ h. g.A.App.identity h.promise.was.value) l.handles.items ≡ map (λ p. g.A.App.identity p.app) l.yielded;
  promises : All (λ h. (h.promise.gauge.value ≡ l.fn.shared.gauge.now) × (h.promise.fresh ≡ l.fn.fresh)) l.handles.items;
}
