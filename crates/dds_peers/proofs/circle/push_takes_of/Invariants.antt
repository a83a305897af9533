use Rattle.std.proofs.Common.{◌≡◌, ◌++◌, map, filter}
use Rattle.std.specs.List.{range_with_len}
use Rattle.dds_lists.specs.WellFormed.{filter_at}
use Rattle.dds_lists.specs.Lists.{has}
use Rattle.dds_peers.specs.declared.circle.Step.TheVariants.{Take}
use Rattle.dds_peers.proofs.circle.push_takes_of.Given as goal

abbrev pub invariant-loop-key : goal.invariant-loop-key
invariant-loop-key l = l.circle.items ≡ l.initial.circle.items ++ map (λ k. Take l.reader k) (filter (has (filter_at l.lists.readers l.reader)) (range_with_len 0 l.key))
