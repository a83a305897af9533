use Rattle.std.proofs.Common.{◌≡◌, drop}
use Rattle.dds_check.specs.Tables.{total_of}
use Rattle.dds_check.proofs.bounds.find_total.Given as goal

abbrev pub invariant-loop-t : goal.invariant-loop-t
invariant-loop-t l = total_of l.totals l.reader ≡ total_of (drop l.t-index l.totals) l.reader
