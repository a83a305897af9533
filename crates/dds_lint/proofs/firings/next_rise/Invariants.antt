use Rattle.std.proofs.Common.{ℕ, ◌<◌, slice_index}
use Rattle.dds_match.specs.Plan.{network_of}
use Rattle.dds_lint.specs.Firings.{IsWithin}
use Rattle.dds_lint.proofs.firings.next_rise.Given as goal

-- each rule so far is within its limit
abbrev pub invariant-loop-u : goal.invariant-loop-u
invariant-loop-u l = (u : ℕ) → u < l.u → IsWithin (network_of l.plan) (slice_index l.limits) u
