use Rattle.std.proofs.Common.{◌≡◌, ◌<◌, ℕ, length}
use Rattle.dds_match.specs.Neighbours.{list_at}
use Rattle.dds_match.specs.Writes.{writes_at}
use Rattle.dds_match.proofs.writes.writes_at_each.Given as goal

-- the lists of the writers so far
abbrev pub invariant-loop-w : goal.invariant-loop-w
invariant-loop-w l = (length l.all.items ≡ l.w) × ((i : ℕ) → i < l.w → list_at l.all.items i ≡ writes_at l.lists i)
