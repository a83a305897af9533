use Rattle.std.proofs.Common.{drop}
use Rattle.dds_match.specs.Plan.{network_of}
use Rattle.dds_recap.proofs.Journeys.{Going}
use Rattle.dds_recap.proofs.explaining.recap_of.Given as goal

abbrev pub invariant-loop-entry : goal.invariant-loop-entry
invariant-loop-entry l = Going (network_of l.plan) l.entries (drop l.entry-index l.entries) l.recap
