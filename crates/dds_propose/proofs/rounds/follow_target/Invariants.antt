use Rattle.std.proofs.Common.{ℕ, ◌≡◌, ◌<◌, true}
use Rattle.dds_match.specs.Plan.{network_of}
use Rattle.dds_propose.specs.Following.{Follows}
use Rattle.dds_propose.specs.Relaxation.{seen}
use Rattle.dds_propose.specs.Tables.{cell}
use Rattle.dds_propose.specs.Targets.{counts, reader_of}
use Rattle.dds_propose.proofs.rounds.follow_target.Given as goal

-- the permits have followed the samples of the keys so far
abbrev pub invariant-loop-k : goal.invariant-loop-k
invariant-loop-k l = record {
  followed : Follows (seen l.carrying (network_of l.plan)) l.initial.weights l.weights l.changed;
  done : (k : ℕ) → k < l.k → counts (network_of l.plan) l.target k ≡ true → cell l.weights.risen (reader_of l.target) k ≡ 0;
}
