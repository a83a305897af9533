use Rattle.std.proofs.Common.{◌≡◌, map}
use Rattle.std.specs.List.{range_with_len}
use Rattle.dds_lists.specs.Lists.{keys_at}
use Rattle.dds_guard.proofs.names.keys_of.Given as goal

-- the keys of the topics so far
abbrev pub invariant-loop-t : goal.invariant-loop-t
invariant-loop-t l = l.keys.items ≡ map (keys_at l.lists.topics) (range_with_len 0 l.t)
