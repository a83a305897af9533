use Rattle.std.proofs.Common.{◌≡◌, ◌≤◌, ◌*◌, ◌^◌}
use Rattle.dds_base.specs.Sums.{total}
use Rattle.dds_match.specs.Network.{weighed}
use Rattle.dds_match.specs.Plan.{network_of}
use Rattle.dds_runs.specs.Accepted.{row_of}
use Rattle.dds_check.proofs.budget.opening_weight.Given as goal

abbrev pub invariant-loop-u : goal.invariant-loop-u
invariant-loop-u l =
    (l.total ≡ total l.u (λ u. weighed ((network_of l.plan).rule u).writes (row_of l.weights).permits * ((network_of l.plan).rule u).start))
    × (l.total ≤ l.u * 2 ^ 68)
