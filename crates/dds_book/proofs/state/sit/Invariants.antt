use Rattle.std.proofs.Common.{◌≡◌, ◌≤◌, ◌+◌, map, drop, length}
use Rattle.std.specs.List.{range_with_len}
use Rattle.std.specs.Vec.{vec_len, vec_capacity}
use Rattle.std.specs.Vec.Iter.{into_iter_items, into_iter_len}
use Rattle.dds_book.specs.Kit.{new_half}
use Rattle.dds_book.specs.Seat.{new_seat}
use Rattle.dds_book.proofs.state.sit.Given as goal

-- the halves that are left are those of the seats from the number on
abbrev pub invariant-loop-half : goal.invariant-loop-half
invariant-loop-half g l = record {
  can_next : (goal.iterator-loop-half g).can_next l.half-iterator;
  is_finite : (goal.iterator-loop-half g).is_finite l.half-iterator;
  rest : into_iter_items l.half-iterator ≡ map new_half (drop l.number g.N.Name.tables);
  counted : into_iter_len l.half-iterator ≡ length (into_iter_items l.half-iterator);
  number : l.number + into_iter_len l.half-iterator ≡ length g.N.Name.tables;
  room : length g.N.Name.tables ≤ vec_capacity l.seats;
  len : vec_len l.seats ≡ l.number;
  seats : l.seats.items ≡ map new_seat (range_with_len 0 l.number);
}
