use Rattle.std.proofs.Common.{◌≡◌, filter}
use Rattle.std.specs.List.{range_with_len}
use Rattle.dds_match.specs.Plan.{is_reader_of}
use Rattle.dds_match.proofs.neighbours.readers_at.Given as goal

-- the participant's readers so far
abbrev pub invariant-loop-r : goal.invariant-loop-r
invariant-loop-r l = l.list.items ≡ filter (is_reader_of l.lists l.p) (range_with_len 0 l.r)
