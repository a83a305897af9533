use Rattle.std.proofs.Common.{ℕ, ◌≡◌, ◌<◌, ◌≤◌, List, ◌∷◌}
use Rattle.dds_base.specs.declared.portion.Portion.{Portion}
use Rattle.dds_match.specs.Plan.{network_of}
use Rattle.dds_propose.specs.Following.{RaisesSamples}
use Rattle.dds_propose.specs.Relaxation.{needs_of, seen}
use Rattle.dds_propose.specs.Tables.{cell}
use Rattle.dds_propose.proofs.rounds.raise_samples.Given as goal

-- the samples that the rules so far need first have risen
abbrev pub invariant-loop-u : goal.invariant-loop-u
invariant-loop-u l = record {
  raised : RaisesSamples l.initial.weights l.weights l.changed;
  done : (u : ℕ) (e : Portion ℕ) (es : List (Portion ℕ)) → u < l.u → needs_of (seen l.carrying (network_of l.plan)) ((network_of l.plan).rule u).takes ≡ e ∷ es → cell l.weights.takes e.endpoint e.key ≤ cell l.weights.samples e.endpoint e.key;
}
