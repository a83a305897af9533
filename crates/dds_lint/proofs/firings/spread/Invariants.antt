use Rattle.std.proofs.Common.{ℕ, ◌≡◌, ◌+◌, ◌*◌, ◌<◌, ◌≤◌, length, slice_index}
use Rattle.dds_match.specs.Plan.{network_of}
use Rattle.dds_lint.specs.Firings.{capped, share}
use Rattle.dds_lint.proofs.firings.spread.Given as goal

-- the readers so far have theirs, and the others nothing yet
abbrev pub invariant-loop-r : goal.invariant-loop-r
invariant-loop-r l = record {
  len : length l.cells ≡ 16384;
  added : (r k : ℕ) → r < l.r → k < 64 → capped (slice_index l.cells (r * 64 + k))
      ≡ capped (slice_index l.initial.cells (r * 64 + k) + share (network_of l.plan) r k l.write * l.times);
  others : (r k : ℕ) → l.r ≤ r → k < 64 → slice_index l.cells (r * 64 + k) ≡ slice_index l.initial.cells (r * 64 + k);
}
