use Rattle.std.proofs.Common.{◌≡◌, None, drop}
use Rattle.dds_match.specs.Plan.{network_of}
use Rattle.dds_sizing.specs.Needs.{greatest_of}
use Rattle.dds_sizing.proofs.needs.greatest_of.Given as goal

-- with the rest it is the greatest of all
abbrev pub invariant-loop-size : goal.invariant-loop-size
invariant-loop-size l = greatest_of (network_of l.plan) l.writer l.key l.greatest (drop l.size-index l.sizes) ≡ greatest_of (network_of l.plan) l.writer l.key None l.sizes
