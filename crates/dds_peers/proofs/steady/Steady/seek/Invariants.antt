use Rattle.std.proofs.Common.{◌≡◌, ◌≤◌, length}
use Rattle.dds_peers.proofs.steady.Steady.seek.Given as goal

abbrev pub invariant-loop-place : goal.invariant-loop-place
invariant-loop-place l = (l.self ≡ l.initial.self) × (l.place-end ≤ length l.self.circle)
