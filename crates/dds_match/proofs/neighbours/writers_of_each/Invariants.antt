use Rattle.std.proofs.Common.{◌≡◌, ◌<◌, ℕ, length}
use Rattle.dds_match.specs.Network.{matched_writers}
use Rattle.dds_match.specs.Neighbours.{list_at}
use Rattle.dds_match.specs.Plan.{network_of}
use Rattle.dds_match.proofs.neighbours.writers_of_each.Given as goal

-- the lists of the readers so far
abbrev pub invariant-loop-r : goal.invariant-loop-r
invariant-loop-r l = (length l.all.items ≡ l.r) × ((i : ℕ) → i < l.r → list_at l.all.items i ≡ matched_writers (network_of l.lists) i)
