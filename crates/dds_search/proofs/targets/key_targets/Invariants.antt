use Rattle.std.proofs.Common.{◌≡◌, flat_map}
use Rattle.std.specs.List.{range_with_len}
use Rattle.dds_match.specs.Plan.{network_of}
use Rattle.dds_search.specs.Sizes.{key_target}
use Rattle.dds_search.proofs.targets.key_targets.Given as goal

-- the keys so far that can reach the reader
abbrev pub invariant-loop-k : goal.invariant-loop-k
invariant-loop-k l = l.targets.items ≡ flat_map (key_target (network_of l.plan) l.reader) (range_with_len 0 l.k)
