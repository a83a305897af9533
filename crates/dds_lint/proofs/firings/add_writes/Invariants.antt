use Rattle.std.proofs.Common.{ℕ, ◌≡◌, ◌+◌, ◌*◌, ◌<◌, length, slice_index, take}
use Rattle.std.specs.List.{sum_by}
use Rattle.dds_match.specs.Plan.{network_of}
use Rattle.dds_lint.specs.Firings.{capped, share}
use Rattle.dds_lint.proofs.firings.add_writes.Given as goal

-- the writes so far are added
abbrev pub invariant-loop-write : goal.invariant-loop-write
invariant-loop-write l = record {
  len : length l.cells ≡ 16384;
  added : (r k : ℕ) → r < (network_of l.plan).readers → k < 64 → capped (slice_index l.cells (r * 64 + k))
      ≡ capped (slice_index l.initial.cells (r * 64 + k) + sum_by (share (network_of l.plan) r k) (take l.write-index l.rule.writes.items) * l.times);
}
