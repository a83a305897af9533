use Rattle.std.proofs.Common.{[]}
use Rattle.dds_propose.specs.Listing.{entries_of}
use Rattle.dds_propose.specs.Tables.{cell}
use Rattle.dds_propose.proofs.Entries.{and_next}
use Rattle.dds_propose.proofs.listing.writer_weights.Goals as goal

pub loop-w-preserved : goal.loop-w-preserved
loop-w-preserved c =
    and_next (λ e. entries_of e (cell c.args.table.now e) 64) c.loop-w.w [] c.loop-w.list.items _ c.loop-w.invariant (rw c.new.ensures at c.in_ok-add_weights.ensures)
