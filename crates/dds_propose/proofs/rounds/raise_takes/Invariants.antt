use Rattle.dds_match.specs.Plan.{network_of}
use Rattle.dds_propose.specs.Following.{RaisesTakes}
use Rattle.dds_propose.specs.Relaxation.{takes_risen, seen}
use Rattle.dds_propose.specs.Tables.{cell}
use Rattle.dds_propose.proofs.rounds.raise_takes.Given as goal

-- the takes after the rules so far
abbrev pub invariant-loop-u : goal.invariant-loop-u
invariant-loop-u l = RaisesTakes (takes_risen (seen l.carrying (network_of l.plan)) (cell l.initial.weights.permits) (cell l.initial.weights.takes) l.u) l.initial.weights l.weights l.changed
