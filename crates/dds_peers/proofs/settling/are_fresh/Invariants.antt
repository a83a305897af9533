use Rattle.std.proofs.Common.{◌≡◌, ◌<◌, ℕ, [], get_or}
use Rattle.dds_peers.proofs.settling.are_fresh.Given as goal

abbrev pub invariant-loop-i : goal.invariant-loop-i
invariant-loop-i g l = record {
  fresh : (k : ℕ) (d : _) → k < l.i → (g.A.App.notes (get_or l.fn.apps k d)).entries ≡ [];
}
