use Rattle.std.proofs.Common.{◌≡◌, ◌++◌}
use Rattle.dds_propose.specs.Listing.{entries_of}
use Rattle.dds_propose.specs.Tables.{cell}
use Rattle.dds_propose.proofs.listing.add_weights.Given as goal

-- the entries of the keys so far are added
abbrev pub invariant-loop-k : goal.invariant-loop-k
invariant-loop-k g l = l.list.items ≡ l.initial.list.items ++ entries_of l.endpoint (cell l.table (g.E.Endpoint.number_of l.endpoint)) l.k
