use Rattle.std.proofs.Common.{◌≡◌, ◌≤◌, vec_len, take, drop}
use Rattle.dds_simplex.specs.Keeping.{kept_columns}
use Rattle.dds_simplex.proofs.keeping.keep_columns.Given as goal

-- the items that are kept of those before the column stand first, and the items from there on are where they were
abbrev pub invariant-loop-column : goal.invariant-loop-column
invariant-loop-column g l = record {
  place : l.kept ≤ l.column;
  len : vec_len l.items ≡ vec_len l.fn.items;
  first : take l.kept l.items.items ≡ kept_columns l.sum.numbers.items (take l.column l.fn.items.items);
  rest : drop l.column l.items.items ≡ drop l.column l.fn.items.items;
}
