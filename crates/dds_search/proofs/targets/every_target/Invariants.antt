use Rattle.std.proofs.Common.{◌≡◌, flat_map}
use Rattle.std.specs.List.{range_with_len}
use Rattle.dds_match.specs.Plan.{network_of}
use Rattle.dds_search.specs.Sizes.{reader_targets}
use Rattle.dds_search.proofs.targets.every_target.Given as goal

-- the targets of the readers so far
abbrev pub invariant-loop-r : goal.invariant-loop-r
invariant-loop-r l = l.targets.items ≡ flat_map (reader_targets (network_of l.plan)) (range_with_len 0 l.r)
