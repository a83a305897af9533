use Rattle.std.proofs.Common.{◌≡◌, length}
use Rattle.dds_book.specs.Kit.{ArePairs}
use Rattle.dds_book.proofs.kit.pairs.Given as goal

abbrev pub invariant-loop-seat : goal.invariant-loop-seat
invariant-loop-seat l = record {
  number : length l.halves.items ≡ l.seat;
  pairs : ArePairs l.holders.items l.halves.items;
}
