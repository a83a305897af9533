use Rattle.std.proofs.Common.{◌≡◌, filter}
use Rattle.std.specs.List.{range_with_len}
use Rattle.dds_match.specs.Plan.{matched}
use Rattle.dds_match.proofs.neighbours.writers_of.Given as goal

-- the writers so far that match
abbrev pub invariant-loop-w : goal.invariant-loop-w
invariant-loop-w l = l.list.items ≡ filter (λ w. matched l.lists w l.r) (range_with_len 0 l.w)
