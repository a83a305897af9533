use Rattle.dds_match.specs.Plan.{network_of}
use Rattle.dds_domain.proofs.Gathered.{Gathers}
use Rattle.dds_domain.proofs.opening.writers_of.Given as goal

-- the writers so far that match
abbrev pub invariant-loop-w : goal.invariant-loop-w
invariant-loop-w l = Gathers (λ w. (network_of l.plan).matched w l.reader) l.w l.writers.items
