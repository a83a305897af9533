use Rattle.std.proofs.Common.{ℕ, ◌≡◌, ◌==◌, ◌&&◌, nat_lt, if◌then◌else◌}
use Rattle.dds_match.specs.Plan.{network_of}
use Rattle.dds_propose.specs.Tables.{cell}
use Rattle.dds_propose.specs.Targets.{counts, reader_of}
use Rattle.dds_propose.proofs.rounds.opening_weights.Given as goal

-- the samples of the keys so far that count have their weight
abbrev pub invariant-loop-k : goal.invariant-loop-k
invariant-loop-k l = record {
  samples : (r k : ℕ) → cell l.weights.samples r k ≡ if nat_lt k l.k && ((r == reader_of l.target) && counts (network_of l.plan) l.target k) then 5040 else 0;
  risen : (r k : ℕ) → cell l.weights.risen r k ≡ cell l.weights.samples r k;
  takes : (r k : ℕ) → cell l.weights.takes r k ≡ 0;
  permits : (w k : ℕ) → cell l.weights.permits w k ≡ 0;
}
