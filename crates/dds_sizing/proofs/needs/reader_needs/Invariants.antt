use Rattle.std.proofs.Common.{◌≡◌, map, take}
use Rattle.dds_match.specs.Plan.{network_of}
use Rattle.dds_sizing.specs.Needs.{need_of}
use Rattle.dds_sizing.proofs.needs.reader_needs.Given as goal

-- the needs of the sizes so far
abbrev pub invariant-loop-size : goal.invariant-loop-size
invariant-loop-size l = l.needs.items ≡ map (need_of (network_of l.plan) l.sizes) (take l.size-index l.sizes)
