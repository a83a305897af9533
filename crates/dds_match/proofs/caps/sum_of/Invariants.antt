use Rattle.std.proofs.Common.{◌≡◌, ◌≤◌, ◌+◌, ◌*◌, ◌^◌, drop, option_map}
use Rattle.dds_match.specs.Plan.{network_of}
use Rattle.dds_match.specs.Sums.{sum_of}
use Rattle.dds_match.proofs.caps.sum_of.Given as goal

abbrev pub invariant-loop-w : goal.invariant-loop-w
invariant-loop-w l = record {
  rest : option_map (λ n. l.sum + n) (sum_of (λ w. (network_of l.lists).cap w l.r l.key) (drop l.w-index l.writers)) ≡ sum_of (λ w. (network_of l.lists).cap w l.r l.key) l.writers;
  small : l.sum ≤ l.w-index * 2 ^ 32;
}
