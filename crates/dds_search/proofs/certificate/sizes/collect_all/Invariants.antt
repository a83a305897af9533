use Rattle.dds_match.specs.Plan.{network_of}
use Rattle.dds_search.proofs.Growing.{AreFirst}
use Rattle.dds_search.proofs.certificate.sizes.collect_all.Given as goal

-- the sizes of the targets so far
abbrev pub invariant-loop-target : goal.invariant-loop-target
invariant-loop-target g l = AreFirst (network_of l.plan) l.target-items l.target-index l.sizes.items
