use Rattle.std.proofs.Common.{◌≡◌, flat_map}
use Rattle.std.specs.List.{range_with_len}
use Rattle.dds_match.specs.Plan.{network_of}
use Rattle.dds_sizing.specs.Needs.{writer_needs}
use Rattle.dds_sizing.proofs.needs.depth_needs.Given as goal

-- the needs of the writers so far
abbrev pub invariant-loop-w : goal.invariant-loop-w
invariant-loop-w l = l.needs.items ≡ flat_map (writer_needs (network_of l.plan) l.sizes) (range_with_len 0 l.w)
