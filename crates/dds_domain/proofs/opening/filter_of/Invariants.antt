use Rattle.dds_match.specs.Plan.{network_of}
use Rattle.dds_domain.proofs.Gathered.{Gathers}
use Rattle.dds_domain.proofs.opening.filter_of.Given as goal

-- the keys so far that are in the filter
abbrev pub invariant-loop-k : goal.invariant-loop-k
invariant-loop-k l = Gathers ((network_of l.plan).hears l.reader) l.k l.keys.items
