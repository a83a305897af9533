use Rattle.std.proofs.Common.{ℕ, ◌≤◌, ◌<◌, get_or}
use Rattle.dds_conform.proofs.stamps.first_fall.Given as goal

-- the times before the place never fall
abbrev pub invariant-loop-place : goal.invariant-loop-place
invariant-loop-place l = (i j : ℕ) → i ≤ j → j < l.place → get_or l.times i 0 ≤ get_or l.times j 0
