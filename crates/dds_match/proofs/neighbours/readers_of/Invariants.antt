use Rattle.std.proofs.Common.{◌≡◌, filter}
use Rattle.std.specs.List.{range_with_len}
use Rattle.dds_match.specs.Plan.{matched}
use Rattle.dds_match.proofs.neighbours.readers_of.Given as goal

-- the readers so far that match
abbrev pub invariant-loop-r : goal.invariant-loop-r
invariant-loop-r l = l.list.items ≡ filter (matched l.lists l.w) (range_with_len 0 l.r)
