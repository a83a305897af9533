use Rattle.std.proofs.Common.{◌≡◌}
use Rattle.dds_propose.specs.Listing.{entries}
use Rattle.dds_propose.specs.Tables.{cell}
use Rattle.dds_propose.proofs.listing.writer_weights.Given as goal

-- the entries of the writers so far
abbrev pub invariant-loop-w : goal.invariant-loop-w
invariant-loop-w l = l.list.items ≡ entries (cell l.table) l.w
