use Rattle.std.proofs.Common.{length}
use Rattle.dds_match.proofs.Patterns.{IsScan, steps_left}
use Rattle.dds_match.proofs.partitions.bytes_match.Given as goal

abbrev pub invariant-loop-place : goal.invariant-loop-place
invariant-loop-place l = IsScan l.pattern l.name l.at l.place l.star

abbrev pub decreases-loop-place : goal.decreases-loop-place
decreases-loop-place l = steps_left (length l.pattern) (length l.name) l.at l.star
