use Rattle.std.proofs.Common.{◌≡◌, ◌+◌, map, []}
use Rattle.std.specs.List.{range_with_len}
use Rattle.dds_book.specs.Gauge.{fresh_seat, view_of}
use Rattle.dds_book.proofs.gauge.open_gauge.Given as goal

-- the maker owns the words of the applications that have no owner yet
abbrev pub invariant-loop-app : goal.invariant-loop-app
invariant-loop-app l = record {
  table : l.maker.table_id ≡ l.table.shared.table_id;
  maker : l.maker.me ≡ (view_of l.app l.fn.apps 0 [], []);
  seats : l.seats.items ≡ map (fresh_seat l.table.shared.table_id l.fn.apps) (range_with_len 0 l.app);
}

abbrev pub invariant-loop : goal.invariant-loop
invariant-loop l = record {
  table : l.maker.table_id ≡ l.table.shared.table_id;
  seats : l.seats.items ≡ map (fresh_seat l.table.shared.table_id l.fn.apps) (range_with_len 0 (l.fn.apps + l.counter));
}
