use Rattle.std.proofs.Common.{◌≡◌, ◌≤◌, ◌*◌, ◌^◌}
use Rattle.dds_base.specs.Sums.{total}
use Rattle.dds_match.specs.Network.{weighed}
use Rattle.dds_match.specs.Plan.{network_of}
use Rattle.dds_propose.specs.Tables.{cell}
use Rattle.dds_propose.proofs.bounds.opening_weight.Given as goal

-- what the rules so far are given
abbrev pub invariant-loop-u : goal.invariant-loop-u
invariant-loop-u l =
    (l.total ≡ total l.u (λ u. weighed ((network_of l.plan).rule u).writes (cell l.weights.permits) * ((network_of l.plan).rule u).start))
    × (l.total ≤ l.u * 2 ^ 68)
