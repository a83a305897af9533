use Rattle.std.proofs.Common.{◌≡◌, ◌≤◌, ◌*◌, ◌^◌}
use Rattle.dds_base.specs.Sums.{total}
use Rattle.dds_match.specs.Network.{named}
use Rattle.dds_match.specs.Plan.{network_of}
use Rattle.dds_check.proofs.finite.opening_permits.Given as goal

-- the sum of the rules so far
abbrev pub invariant-loop-u : goal.invariant-loop-u
invariant-loop-u l =
    (l.total ≡ total l.u (λ u. named ((network_of l.plan).rule u).writes l.writer l.key * ((network_of l.plan).rule u).start)) × (l.total ≤ l.u * 2 ^ 36)
