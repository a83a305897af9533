use Rattle.dds_match.specs.Plan.{network_of}
use Rattle.dds_weights.specs.Views.{certificate_view}
use Rattle.dds_propose.proofs.Proposals.{LeadsOn}
use Rattle.dds_propose.proofs.proposer.candidate.Given as goal

-- the targets that are left lead from here to a proposal
abbrev pub invariant-loop-target : goal.invariant-loop-target
invariant-loop-target l = LeadsOn (network_of l.plan) l.target-items l.target-index (certificate_view l.certificate)
