use Rattle.std.proofs.Common.{◌≡◌, Some, drop}
use Rattle.dds_search.specs.Sizes.{sum_of}
use Rattle.dds_search.proofs.certificate.totals.sum_of.Given as goal

-- with the rest it is the sum of all
abbrev pub invariant-loop-size : goal.invariant-loop-size
invariant-loop-size l = sum_of l.reader l.sum (drop l.size-index l.sizes) ≡ sum_of l.reader (Some 0) l.sizes
