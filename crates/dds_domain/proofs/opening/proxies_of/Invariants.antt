use Rattle.dds_match.specs.Plan.{network_of}
use Rattle.dds_domain.proofs.Opened.{AreProxiesBelow}
use Rattle.dds_domain.proofs.opening.proxies_of.Given as goal

-- the readers so far that match
abbrev pub invariant-loop-r : goal.invariant-loop-r
invariant-loop-r l = AreProxiesBelow (network_of l.plan) l.writer l.r l.proxies.items
