use Rattle.std.proofs.Common.{ℕ, ◌≡◌, ◌-◌, ◌<◌, length, slice_index}
use Rattle.std.specs.List.{sum_by}
use Rattle.dds_match.specs.Plan.{network_of}
use Rattle.dds_lint.specs.Firings.{IsLeast, ShowsSent}
use Rattle.dds_lint.proofs.firings.settle.Given as goal

-- there's a limit for each rule, which it can fire at least, and the cells have what is sent by them
abbrev pub invariant-loop-rise : goal.invariant-loop-rise
invariant-loop-rise l = record {
  len : length l.limits ≡ 256;
  least : (u : ℕ) → u < (network_of l.plan).rules → IsLeast (network_of l.plan) u (slice_index l.limits u);
  sent : ShowsSent (network_of l.plan) (slice_index l.limits) l.cells;
}

-- what can still be fired becomes less
abbrev pub decreases-loop-rise : goal.decreases-loop-rise
decreases-loop-rise l = sum_by (λ n. 1001 - n) l.limits
