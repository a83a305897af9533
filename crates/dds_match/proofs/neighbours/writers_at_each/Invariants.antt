use Rattle.std.proofs.Common.{◌≡◌, ◌<◌, ℕ, length}
use Rattle.dds_match.specs.Neighbours.{list_at}
use Rattle.dds_match.specs.Plan.{participant_writers}
use Rattle.dds_match.proofs.neighbours.writers_at_each.Given as goal

-- the lists of the participants so far
abbrev pub invariant-loop-p : goal.invariant-loop-p
invariant-loop-p l = (length l.all.items ≡ l.p) × ((i : ℕ) → i < l.p → list_at l.all.items i ≡ participant_writers l.lists i)
