use Rattle.std.proofs.Common.{◌≡◌, filter}
use Rattle.std.specs.List.{range_with_len}
use Rattle.dds_match.specs.Plan.{is_writer_of}
use Rattle.dds_match.proofs.neighbours.writers_at.Given as goal

-- the participant's writers so far
abbrev pub invariant-loop-w : goal.invariant-loop-w
invariant-loop-w l = l.list.items ≡ filter (is_writer_of l.lists l.p) (range_with_len 0 l.w)
