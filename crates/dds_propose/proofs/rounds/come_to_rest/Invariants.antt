use Rattle.dds_match.specs.Plan.{network_of}
use Rattle.dds_propose.specs.Following.{IsMade}
use Rattle.dds_propose.specs.Relaxation.{IsSame, opening, rounds, seen}
use Rattle.dds_propose.specs.Tables.{row_of}
use Rattle.dds_propose.proofs.rounds.come_to_rest.Given as goal

-- so many rounds have been made
abbrev pub invariant-loop-count : goal.invariant-loop-count
invariant-loop-count l = record {
  made : IsMade (seen l.carrying (network_of l.plan)) l.target l.weights;
  same : IsSame (row_of l.weights) (rounds (seen l.carrying (network_of l.plan)) (opening (seen l.carrying (network_of l.plan)) l.target) l.count);
}
