use Rattle.std.proofs.Common.{[]}
use Rattle.dds_propose.specs.Listing.{entries_of}
use Rattle.dds_propose.specs.Tables.{cell}
use Rattle.dds_propose.proofs.Entries.{and_next}
use Rattle.dds_propose.proofs.listing.reader_weights.Goals as goal

pub loop-r-preserved : goal.loop-r-preserved
loop-r-preserved c =
    and_next (λ e. entries_of e (cell c.args.table.now e) 64) c.loop-r.r [] c.loop-r.list.items _ c.loop-r.invariant (rw c.new.ensures at c.in_ok-add_weights.ensures)
