use Rattle.std.proofs.Common.{ℕ, ◌≡◌, ◌*◌, ◌+◌, ◌<◌, length, slice_index}
use Rattle.dds_base.specs.Sums.{total}
use Rattle.dds_match.specs.Plan.{network_of}
use Rattle.dds_lint.specs.Firings.{capped, rounds, sends}
use Rattle.dds_lint.proofs.firings.open.Given as goal

-- what the rules so far send at the opening is added
abbrev pub invariant-loop-u : goal.invariant-loop-u
invariant-loop-u l = record {
  len : length l.cells ≡ 16384;
  added : (r k : ℕ) → r < (network_of l.plan).readers → k < 64
      → capped (slice_index l.cells (r * 64 + k)) ≡ capped (total l.u (λ u. sends (network_of l.plan) r k u * rounds (network_of l.plan) u 0));
}
