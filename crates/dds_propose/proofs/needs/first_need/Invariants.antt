use Rattle.std.proofs.Common.{◌≡◌, drop, slice_get}
use Rattle.dds_match.specs.Plan.{network_of}
use Rattle.dds_propose.specs.Relaxation.{needs_of, seen}
use Rattle.dds_propose.proofs.needs.first_need.Given as goal

-- none so far is one
abbrev pub invariant-loop-need : goal.invariant-loop-need
invariant-loop-need l = slice_get (needs_of (seen l.carrying (network_of l.plan)) l.needs) 0 ≡ slice_get (needs_of (seen l.carrying (network_of l.plan)) (drop l.need-index l.needs)) 0
