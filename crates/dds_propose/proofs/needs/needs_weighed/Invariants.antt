use Rattle.std.proofs.Common.{◌≡◌, ◌+◌, ◌≤◌, ◌*◌, ◌^◌, drop}
use Rattle.dds_match.specs.Network.{weighed}
use Rattle.dds_match.specs.Plan.{network_of}
use Rattle.dds_propose.specs.Relaxation.{needs_of, seen}
use Rattle.dds_propose.specs.Tables.{cell}
use Rattle.dds_propose.proofs.needs.needs_weighed.Given as goal

-- what the needs so far weigh, and the rest
abbrev pub invariant-loop-need : goal.invariant-loop-need
invariant-loop-need l =
    (l.total + weighed (needs_of (seen l.carrying (network_of l.plan)) (drop l.need-index l.needs)) (cell l.takes) ≡ weighed (needs_of (seen l.carrying (network_of l.plan)) l.needs) (cell l.takes))
    × (l.total ≤ l.need-index * 2 ^ 48)
