use Rattle.std.proofs.Common.{◌≡◌, ◌≤◌, ◌+◌, ◌++◌, length, map, true}
use Rattle.std.specs.Vec.{vec_len, vec_capacity}
use Rattle.std.specs.Vec.Iter.{into_iter_items, into_iter_len}
use Rattle.dds_apps.specs.Kept.{done_by}
use Rattle.dds_peers.proofs.ListLaws.{Walks}
use Rattle.dds_peers.proofs.settling.settle.Given as goal

abbrev pub invariant-loop-player : goal.invariant-loop-player
invariant-loop-player g l = record {
  can_next : (goal.iterator-loop-player g).can_next l.player-iterator;
  is_finite : (goal.iterator-loop-player g).is_finite l.player-iterator;
  walk : Walks l.fn.players.items l.yielded (into_iter_items l.player-iterator) (into_iter_len l.player-iterator);
  apps_room : vec_len l.apps + into_iter_len l.player-iterator ≤ vec_capacity l.apps;
  ends_room : vec_len l.ends + into_iter_len l.player-iterator ≤ vec_capacity l.ends;
  counts_room : vec_len l.counts + into_iter_len l.player-iterator ≤ vec_capacity l.counts;
  seats_room : vec_len l.seats + into_iter_len l.player-iterator ≤ vec_capacity l.seats;
  numbers : map (λ s. s.number) l.seats.items ≡ map (λ p. p.seat.number) l.yielded;
  identities : map (λ a. g.A.App.identity a) l.apps.items ≡ map (λ p. g.A.App.identity p.app) l.yielded;
  diaries : l.fn._fresh ≡ true → map (λ a. (g.A.App.notes a).entries) l.apps.items ≡ map done_by l.seats.items;
  counts : l.counts.items ≡ map (λ s. length (done_by s)) l.seats.items;
  ends : length l.ends.items ≡ length l.yielded;
}
