use Rattle.dds_match.specs.Plan.{network_of}
use Rattle.dds_search.specs.Sizes.{IsShownSize}
use Rattle.dds_search.proofs.certificate.depths.greatest_of.Given as goal

-- the greatest so far is shown
abbrev pub invariant-loop-reader : goal.invariant-loop-reader
invariant-loop-reader g l = IsShownSize (network_of l.plan) l.greatest
