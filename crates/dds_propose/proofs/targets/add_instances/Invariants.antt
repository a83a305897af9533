use Rattle.std.proofs.Common.{◌≡◌, ◌++◌, flat_map}
use Rattle.std.specs.List.{range_with_len}
use Rattle.dds_match.specs.Plan.{network_of}
use Rattle.dds_propose.specs.Targets.{key_target}
use Rattle.dds_propose.proofs.targets.add_instances.Given as goal

-- the targets of the keys so far are added
abbrev pub invariant-loop-k : goal.invariant-loop-k
invariant-loop-k l = l.targets.items ≡ l.initial.targets.items ++ flat_map (key_target (network_of l.plan) l.reader) (range_with_len 0 l.k)
