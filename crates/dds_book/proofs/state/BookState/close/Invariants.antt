use Rattle.std.proofs.Common.{◌≡◌, ◌++◌, length, All}
use Rattle.std.specs.Vec.Iter.{into_iter_items, into_iter_len}
use Rattle.dds_book.specs.Journal.{IsFront}
use Rattle.dds_book.proofs.state.BookState.close.Given as goal

abbrev pub invariant-loop-seat : goal.invariant-loop-seat
invariant-loop-seat g l = record {
  can_next : (goal.iterator-loop-seat g).can_next l.seat-iterator;
  is_finite : (goal.iterator-loop-seat g).is_finite l.seat-iterator;
  holders : l.holders.items ≡ l.initial.holders.items;
  counted : into_iter_len l.seat-iterator ≡ length (into_iter_items l.seat-iterator);
  seats : l.fn.seats.items ≡ l.yielded ++ into_iter_items l.seat-iterator;
  fronts : All (λ s. IsFront s.number s.front l.journal.items) l.yielded;
}
