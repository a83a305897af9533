use Rattle.std.proofs.Common.{◌≡◌}
use Rattle.dds_propose.specs.Listing.{entries}
use Rattle.dds_propose.specs.Tables.{cell}
use Rattle.dds_propose.proofs.listing.reader_weights.Given as goal

-- the entries of the readers so far
abbrev pub invariant-loop-r : goal.invariant-loop-r
invariant-loop-r l = l.list.items ≡ entries (cell l.table) l.r
