use Rattle.std.proofs.Common.{◌≡◌, ◌+◌, ◌<◌, ◌≤◌}
use Rattle.dds_conform.specs.Breaches.{count_in, wrote}
use Rattle.dds_conform.proofs.windows.find_write.Given as goal

-- so many writes are still to be found
abbrev pub invariant-loop-place : goal.invariant-loop-place
invariant-loop-place l = record {
  place : l.place ≤ l.before;
  some : 0 < l.left;
  few : l.left ≤ l.writes;
  counted : count_in (wrote l.writer l.key) l.place l.entries + l.writes ≡ count_in (wrote l.writer l.key) l.before l.entries + l.left;
}

abbrev pub decreases-loop-place : goal.decreases-loop-place
decreases-loop-place l = l.place
