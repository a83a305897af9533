use Rattle.std.proofs.Common.{◌≡◌, ◌≤◌, ◌+◌, ◌++◌, length, map, All}
use Rattle.std.specs.List.{range_with_len}
use Rattle.std.specs.Vec.{vec_len, vec_capacity}
use Rattle.std.specs.Vec.Iter.{into_iter_items, into_iter_len}
use Rattle.dds_book.specs.Seat.{new_seat}
use Rattle.dds_apps.specs.Kept.{IsKept, claim_of, new_claim}
use Rattle.dds_peers.proofs.ListLaws.{Walks}
use Rattle.dds_peers.proofs.settling.sit.Given as goal

abbrev pub invariant-loop-app : goal.invariant-loop-app
invariant-loop-app g l = record {
  can_next : (goal.iterator-loop-app g).can_next l.app-iterator;
  is_finite : (goal.iterator-loop-app g).is_finite l.app-iterator;
  walk : Walks l.fn.apps.items l.yielded (into_iter_items l.app-iterator) (into_iter_len l.app-iterator);
  room : vec_len l.players + into_iter_len l.app-iterator ≤ vec_capacity l.players;
  number : l.number + into_iter_len l.app-iterator ≡ length l.fn.apps.items;
  seats : into_iter_items l.seats ≡ map new_seat (range_with_len l.number (into_iter_len l.app-iterator));
  counters : map claim_of (into_iter_items l.counters) ≡ map (new_claim l.fn._gauge.table) (range_with_len l.number (into_iter_len l.app-iterator));
  seats_len : into_iter_len l.seats ≡ length (into_iter_items l.seats);
  counters_len : into_iter_len l.counters ≡ length (into_iter_items l.counters);
  numbers : map (λ p. p.seat.number) l.players.items ≡ range_with_len 0 l.number;
  identities : map (λ p. g.A.App.identity p.app) l.players.items ≡ map (λ a. g.A.App.identity a) l.yielded;
  players : All (λ p. IsKept l.fn._gauge l.fn._fresh p.seat p.counter (g.A.App.notes p.app).entries) l.players.items;
}
