use Rattle.std.proofs.Common.{◌≡◌, ℕ, ◌+◌, Some, length}
use Rattle.std.specs.Prelude.{slice_get}
use Rattle.dds_peers.specs.Delays.{IsDelay, home_of}
use Rattle.dds_peers.proofs.delays.draw_delays.Given as goal

-- the applications so far have delays
abbrev pub invariant-loop-app : goal.invariant-loop-app
invariant-loop-app l = record {
  count : length l.delays.items ≡ l.app;
  each : (seat n : ℕ) → slice_get l.delays.items seat ≡ Some n → IsDelay l.lists (home_of l.lists seat) n;
}

-- so have all of them, and the participants so far
abbrev pub invariant-loop-participant : goal.invariant-loop-participant
invariant-loop-participant l = record {
  count : length l.delays.items ≡ length l.lists.applications.entries + l.participant;
  each : (seat n : ℕ) → slice_get l.delays.items seat ≡ Some n → IsDelay l.lists (home_of l.lists seat) n;
}
